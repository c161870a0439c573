-- What is shown of a volume among fewer records is so among all: its layout, and what is asked of the disks.
use Rattle.std.proofs.Common.{◌≡◌, ℕ, ◌+◌, ◌-◌, ◌^◌, ◌≤◌, ◌==◌, refl, sym, ap, subst, ◌∙◌, true, find, List, length, get_or, Option, Result, Ok, Some, Bool, false, is_some, Err, eq-eqb}
use Rattle.ldm_edits.proofs.Common.{Record, Volume, Component, Label, Database, is_child, max_id, volume_in, HasSameDisks, Rising, Plex, Shape, Span, Stripe, Mirror, Raid5, plexes_of, layout_of, shape_of, Layout, Taken, Wanted, Piece}
use Rattle.std.specs.List.{All, Contains, filter_map, list_any}
use Rattle.std.proofs.lemmas.List.Elements.{All-contains, Contains-get_or}
use Rattle.std.proofs.lemmas.List.Folds.{list_any_at}
use Rattle.ldm_records.specs.declared.types.Record.TheVariants as kinds
use Rattle.ldm_group.specs.Looks.{by_id}
use Rattle.ldm_group.specs.Partitions.{EndsInRange}
use Rattle.ldm_layout.specs.Parts.{plex_in}
use Rattle.ldm_layout.proofs.VolumeLaws.{laid_out_volume, plexes_by, same_layout}
use Rattle.ldm_places.specs.Layouts.{capacity_of}
use Rattle.ldm_edits.specs.declared.error.StepError.{StepError}
use Rattle.ldm_edits.specs.declared.reply.Refusal.{Refusal}
use Rattle.ldm_edits.specs.declared.reply.Refusal.TheVariants as refusals
use Rattle.ldm_edits.specs.Answers.{RefusesAs}
use Rattle.ldm_edits.specs.Asked.{words_by}
use Rattle.ldm_edits.specs.Changes.{change_to, when}
use Rattle.ldm_edits.specs.Extended.{extended}
use Rattle.ldm_edits.specs.Extending.{against_longer, component_in, component_of, extended_span, held, is_bad_length, lengthen, lengthened, longer_span, MayExtend}
use Rattle.ldm_edits.specs.Replacing.{ShowsAs}
use Rattle.ldm_edits.specs.Spots.{and_then, by_place, open_wanted, refused_or, spots_for}
use Rattle.ldm_edits.proofs.AdditionLaws.{asked_same, then_refused}
use Rattle.ldm_edits.proofs.AskedLaws.{asked_open, place_ok}
use Rattle.ldm_edits.proofs.LimitLaws.{not_when}
use Rattle.ldm_group.proofs.ListLaws.{find_kept}

module _ {own all : List Record} {v : Volume} (shows : ShowsAs own all v) where
  pub plexes_shown : plexes_of v.head.id own ≡ plexes_of v.head.id all
  plexes_shown = plexes_by v.head.id own ∙ ap (filter_map plex_in) shows.components ∙ sym (plexes_by v.head.id all)

  pub layout_shown : layout_of own v ≡ layout_of all v
  layout_shown = same_layout own all v shows.components (λ k d lt.
      let ps : List Plex = plexes_of v.head.id own in
      let q : ℕ = (get_or ps k d).id in
      shows.partitions q (subst (λ (l : List Plex). list_any (λ plex. plex.id == q) l ≡ true) plexes_shown
      (list_any_at (λ plex. plex.id == q) ps k d lt (eq-eqb q q refl))))

  -- what a plan of it says
  module _ {plan : Layout} (planned : layout_of own v ≡ Ok plan) where
    pub shape_shown : {s t : Shape} → s ≡ plan.shape → s ≡ t → shape_of (plexes_of v.head.id all) ≡ Some t
    shape_shown of is = (laid_out_volume all v plan (sym layout_shown ∙ planned)).parts.shape
        ∙ ap (λ (x : Shape). Some x) (sym of ∙ is)

    pub held_shown : capacity_of plan ≡ held (layout_of all v)
    held_shown = ap held (sym planned ∙ layout_shown)

  pub ends_shown : All EndsInRange all → All EndsInRange own
  ends_shown ends k d lt = All-contains EndsInRange all (get_or own k d) ends (shows.members (get_or own k d) (Contains-get_or own k d lt))

-- what is asked of the disks, where the same stands against it
pub opened_shown : (a b : Database) (labels : List Label) (words : List (List ℕ × ℕ)) (p q : List Wanted → Option Refusal) → HasSameDisks a.records b.records → p ≡ q
    → open_wanted a labels words p ≡ open_wanted b labels words q
opened_shown a b labels words p q disks against =
    λ i. and_then (by_place refusals.NoDisk (asked_same labels a.records b.records disks 0 words i)) (λ wanted. refused_or (against i wanted) (Ok wanted))

-- all records show each volume that they have
pub shows_itself : (records : List Record) (v : Volume) → Rising records → by_id 3 v.head.id records ≡ Some (kinds.Volume v) → ShowsAs records records v
shows_itself records v up again = record {
  rising = up;
  members = λ r at. at;
  disks = refl;
  again = ap volume_in again;
  components = refl;
  partitions = λ id own. refl;
}

-- ---- a longer span

module _ (own group : Database) (labels : List Label) (pieces : List Piece) {v : Volume} {extra : Bool}
    (shows : ShowsAs own.records group.records v) (span : shape_of (plexes_of v.head.id group.records) ≡ Some Span)
    (extra_is : extra ≡ is_some v.size2) (plain : extra ≡ false) where
  abbrev asks_own : Result (List Wanted) Refusal
  asks_own = open_wanted own labels (words_by pieces) (against_longer own.records v)

  abbrev extends : Result Database Refusal
  extends = extended_span group labels pieces (Some v)

  longer_shown : asks_own ≡ open_wanted group labels (words_by pieces) (against_longer group.records v)
  longer_shown = opened_shown own group labels _ _ _ shows.disks
      (λ i wanted. when (is_bad_length (held (layout_shown shows i)) wanted) refusals.BadSize)

  is_longer : extends ≡ longer_span group labels pieces v
  is_longer = rw (span, sym extra_is ∙ plain)

  component_shown : component_of v own.records ≡ component_of v group.records
  component_shown = ap component_in (find_kept (is_child 3 v.head.id) own.records ∙ ap (find (is_child 3 v.head.id)) shows.components ∙ sym (find_kept (is_child 3 v.head.id) group.records))

  pub longer_refused : (error : StepError) → RefusesAs error asks_own → RefusesAs error extends
  longer_refused error refuses = rw is_longer (then_refused error _ _ (subst (RefusesAs error) longer_shown refuses))

  module _ (wanted : List Wanted) (asked : asks_own ≡ Ok wanted) where
    pub longer_next : (o : Option Component) → o ≡ component_of v own.records → extends ≡ lengthen group labels v o wanted
    longer_next o is = is_longer ∙ rw (sym longer_shown ∙ asked, is ∙ component_shown)

    -- where what is asked is placed as this list
    module _ (c : Component) (component : Some c ≡ component_of v own.records)
        {listed : List Wanted} (same : listed ≡ wanted) where
      pub longer_unplaced : (error : StepError) → RefusesAs error (spots_for group listed) → RefusesAs error extends
      longer_unplaced error refuses = rw (longer_next (Some c) component) (then_refused error _ _ (rw same at refuses))

      module _ (spots : List Taken) (placed : spots_for group listed ≡ Ok spots) where
        pub longer_placed : extends ≡ change_to group labels (length wanted)
            (lengthened group.records v c (held (layout_of group.records v)) spots)
        longer_placed = longer_next (Some c) component ∙ rw (rw same at placed)

        pub may_extend : Contains group.records (kinds.Volume v) → max_id group.records + length wanted ≤ 2 ^ 64 - 1
            → MayExtend group labels v c wanted spots
        may_extend there ids =
            let words = asked_open group labels (words_by pieces) (against_longer group.records v) wanted (sym longer_shown ∙ asked) in
            record {
              there = there;
              span = span;
              component = sym (component ∙ component_shown);
              words = words_by pieces;
              asked = words.0;
              sizes = not_when (is_bad_length (held (layout_of group.records v)) wanted) refusals.BadSize words.1;
              places = place_ok refusals.NoSpace _ spots (rw same at placed);
              ids = ids;
            }

-- what is neither a mirror nor a span is not extended
pub other_shape : (db : Database) (labels : List Label) (pieces : List Piece) (v : Volume) (s : Shape)
    → shape_of (plexes_of v.head.id db.records) ≡ Some s → (s ≡ Mirror → ⊥) → (s ≡ Span → ⊥)
    → extended db labels pieces (Some v) ≡ Err refusals.NotSpan
other_shape db labels pieces v Mirror is mirror span = absurd (mirror refl)
other_shape db labels pieces v Span is mirror span = absurd (span refl)
other_shape db labels pieces v Stripe is mirror span = rw is (rw is refl)
other_shape db labels pieces v Raid5 is mirror span = rw is (rw is refl)
