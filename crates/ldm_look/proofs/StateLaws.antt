-- What is known of a volume by lists of its components and partitions.
use Rattle.std.proofs.Common.{arith, ◌≡◌, ◌∙◌, ◌<◌, ℕ, zero, suc, Bool, false, List, Result, Err, ap, refl, subst, sym}
use Rattle.std.specs.List.{All}
use Rattle.ldm_records.specs.declared.types.Volume.{Volume}
use Rattle.ldm_group.specs.Partitions.{EndsInRange}
use Rattle.ldm_layout.specs.Grouped.{Lists, IsListsOf}
use Rattle.ldm_layout.specs.Parts.{plexes_at, extents_at, plexes_of, extents_of}
use Rattle.ldm_layout.specs.Volumes.{draft_of, checked}
use Rattle.ldm_layout.specs.declared.parts.Plex.{Plex}
use Rattle.ldm_layout.proofs.VolumeLaws.{extents_end, layout_is, lists_end}
use Rattle.ldm_places.specs.Layouts.{Layout}
use Rattle.ldm_places.specs.Plans.{AllEnd}
use Rattle.ldm_places.specs.declared.extent.Extent.{Extent}
use Rattle.ldm_places.specs.declared.shape.LayoutError.{LayoutError}
use Rattle.ldm_places.specs.declared.shape.LayoutError.TheVariants.{Fault}
use Rattle.ldm_places.specs.declared.shape.LayoutFault.{LayoutFault}
use Rattle.ldm_layout.specs.Answers.{PlansAs}
use Rattle.ldm_copy.specs.declared.found.Found.{Found}
use Rattle.ldm_look.specs.States.{have_images, has_all_images, lost_by_layout, lost_of, state_with, state_of}
use Rattle.ldm_look.specs.declared.states.VolumeState.TheVariants.{Lost}

pub images_are : (found : Found) (lists : Lists) (volume : ℕ) (plexes : List Plex) (has : Bool) → IsListsOf lists found.db.records → plexes ≡ plexes_at volume lists.plexes
    → has ≡ have_images found (λ c. extents_at c lists.extents) plexes → has ≡ has_all_images found volume
unfolding has_all_images
images_are found lists volume plexes has h at is =
    let same : ◌≡◌ {A = ℕ → List Extent} (λ c. extents_at c lists.extents) (λ c. extents_of c found.db.records) = λ i c. h.extents_are c i in
    is ∙ (ap (λ (ps : List Plex). have_images found (λ c. extents_at c lists.extents) ps) (at ∙ h.plexes_are volume)
    ∙ ap (λ (f : ℕ → List Extent). have_images found f (plexes_of volume found.db.records)) same)

pub lost_is : (found : Found) (lists : Lists) (v : Volume) (layout : Result Layout LayoutFault) → IsListsOf lists found.db.records
    → checked (draft_of v.size (plexes_at v.head.id lists.plexes) (λ c. extents_at c lists.extents)) ≡ layout → lost_by_layout found layout ≡ lost_of found v
unfolding lost_of
lost_is found lists v layout h is = ap (λ (l : Result Layout LayoutFault). lost_by_layout found l) (sym is ∙ layout_is lists found.db.records v h)

pub lost_fault : (found : Found) (lists : Lists) (v : Volume) (e : LayoutError) (fault : LayoutFault) → IsListsOf lists found.db.records → e ≡ Fault fault
    → PlansAs (Err e) (checked (draft_of v.size (plexes_at v.head.id lists.plexes) (λ c. extents_at c lists.extents))) → 0 ≡ lost_of found v
lost_fault found lists v e fault h is plans =
    let drafted = checked (draft_of v.size (plexes_at v.head.id lists.plexes) (λ c. extents_at c lists.extents)) in
    lost_is found lists v (Err fault) h (subst (λ (x : LayoutError). PlansAs (Err x) drafted) is plans)

pub all_end : (found : Found) (lists : Lists) (volume : ℕ) → IsListsOf lists found.db.records → All EndsInRange found.db.records
    → All (λ p. AllEnd (extents_at p.id lists.extents)) (plexes_at volume lists.plexes)
all_end found lists volume h ends = lists_end lists found.db.records volume h (extents_end found.db.records volume (λ k d lt is. ends k d lt))

pub state_is : (found : Found) (v : Volume) (has : Bool) (lost : ℕ) → has ≡ has_all_images found v.head.id → lost ≡ lost_of found v → state_with has lost ≡ state_of found v
state_is found v has lost a b = ap (λ (h : Bool). state_with h lost) a ∙ ap (λ (n : ℕ). state_with (has_all_images found v.head.id) n) b

pub some_lost : (lost : ℕ) → 0 < lost → Lost lost ≡ state_with false lost
some_lost zero some = absurd (omega (arith, some))
some_lost (suc n) some = refl
