-- What a view shows of the moves of its host.
use Rattle.std.proofs.Common.{[], ◌≡◌, ◌⊎◌, inl, inr, ⊎_elim, ℕ, zero, suc, ◌+◌, ◌-◌, ◌*◌, ◌/◌, ◌^◌, ◌<◌, ◌≤◌, min, List, ◌∷◌, ◌++◌, length, get_or, set, slice_index, slice_get, slice_range, take, drop, Some, Bool, true, false, if◌then◌else◌, refl, sym, ◌∙◌, ap, subst, arith}
use Rattle.std.proofs.lemmas.List.{get_or-set_same, get_or-set_other}
use Rattle.ldm_host.specs.Seen.{Seen, Leaves, image}
use Rattle.ldm_host.specs.Moves.{Rose, Later, Still, Looks, Writes, Syncs}
use Rattle.ldm_host.proofs.Relations.{begins_itself, grows_itself, torn_itself, torn_at_itself}
use Rattle.ldm_view.specs.declared.patch.Patch.{Patch}
use Rattle.ldm_bytes.specs.Places.{put}
use Rattle.ldm_view.specs.Patches.{patched, shown, IsOnDisk, FitAll}
use Rattle.ldm_view.specs.ViewSeen.{IsShown, IsShownSince, view_seen}
use Rattle.ldm_view.specs.Laws.{view_only}
use Rattle.ldm_view.specs.PatchLaws.{image_shown}
use Rattle.std.proofs.Math.Logic.{∥∥₁_map, ∥∥₁_elim}
use Rattle.std.proofs.Props.{props}
use Rattle.ldm_host.proofs.Relations.{still_trans}
use Rattle.std.proofs.lemmas.List.{append-nil, take-append-drop, set-get_or}
use Rattle.std.proofs.lemmas.Bool.{cases_eq}
use Rattle.std.proofs.lemmas.Option.{same_Some}

-- what is shown of disks that are as they were
module _ (tells : Type 0) (patches : List Patch) (a b : Seen) (sizes : b.sizes ≡ a.sizes) (content : b.content ≡ a.content) where
  pub shown_same : (disk : ℕ) (c : List ℕ) → IsShown tells patches b disk c → IsShown tells patches a disk c
  shown_same disk c is = (is.0, subst (λ (l : List ℕ). disk < length l) sizes is.1, is.2 ∙ ap (λ (l : List (List ℕ)). image (shown patches l) disk) content)

  pub shown_back : (disk : ℕ) (c : List ℕ) → IsShown tells patches a disk c → IsShown tells patches b disk c
  shown_back disk c is = (is.0, subst (λ (l : List ℕ). disk < length l) (sym sizes) is.1, is.2 ∙ ap (λ (l : List (List ℕ)). image (shown patches l) disk) (sym content))

  pub since_same : (t u : ℕ) (images : List (List ℕ)) (said : List ℕ) → ((left : List (List ℕ)) × a.left_since u left said)
      → IsShownSince tells patches b t images said → IsShownSince tells patches a u images said
  since_same t u images said moment since = record {
    moment = moment;
    one_each = since.one_each ∙ ap length sizes;
    each = λ disk lt. shown_same disk (image images disk) (since.each disk (subst (λ (l : List ℕ). disk < length l) (sym sizes) lt));
  }

  pub since_back : (t u : ℕ) (images : List (List ℕ)) (said : List ℕ) → ((left : List (List ℕ)) × b.left_since u left said)
      → IsShownSince tells patches a t images said → IsShownSince tells patches b u images said
  since_back t u images said moment since = record {
    moment = moment;
    one_each = since.one_each ∙ ap length (sym sizes);
    each = λ disk lt. shown_back disk (image images disk) (since.each disk (subst (λ (l : List ℕ). disk < length l) sizes lt));
  }

-- a call of the host that looks
pub view_later : (tells : Type 0) (patches : List Patch) (wrote : List ℕ) (refused : ℕ) (a b : Seen) → Still a b
    → Later (view_seen tells patches wrote refused a) (view_seen tells patches wrote refused b)
view_later tells patches wrote refused a b still = record {
  sizes = still.later.sizes;
  disk_faults = omega (arith, still.later.disk_faults);
  talk_faults = still.later.talk_faults;
  failed = still.later.failed;
  said = still.later.said;
  clock = still.later.clock;
  keeps = λ t images said le since. since_back tells patches a b sizes content t t images said (since.moment.0, still.later.keeps t since.moment.0 said le since.moment.1) since;
  adds = λ t images said le since. record {
    moment = (since.moment.0, still.later.adds t since.moment.0 said le since.moment.1);
    one_each = since.one_each;
    each = since.each;
  };
  nothing_else = λ t images said le since. ⊎_elim
      (λ sooner. inl (since_same tells patches a b sizes content t t images said (since.moment.0, sooner) since))
      (λ later. inr (record { moment = (since.moment.0, later); one_each = since.one_each; each = since.each }))
      (still.later.nothing_else t since.moment.0 said le since.moment.1);
}
  where
    sizes : b.sizes ≡ a.sizes
    sizes = still.later.sizes

    content : b.content ≡ a.content
    content = still.content

pub view_still : (tells : Type 0) (patches : List Patch) (wrote : List ℕ) (refused : ℕ) (a b : Seen) → Still a b
    → Still (view_seen tells patches wrote refused a) (view_seen tells patches wrote refused b)
view_still tells patches wrote refused a b still = record {
  later = view_later tells patches wrote refused a b still;
  content = ap (shown patches) still.content;
  wrote = refl;
  left = λ disk c. (shown_same tells patches a b still.later.sizes still.content disk c, shown_back tells patches a b still.later.sizes still.content disk c);
  moments = λ images said since.
      let moment = still.moments since.moment.0 said since.moment.1 in
      let was = since_same tells patches a b still.later.sizes still.content a.clock a.clock images said in (
        record {
          one_each = since.one_each ∙ ap length still.later.sizes;
          each = λ disk lt. shown_same tells patches a b still.later.sizes still.content disk (image images disk) (since.each disk (subst (λ (l : List ℕ). disk < length l) (sym still.later.sizes) lt));
        },
        moment.1,
        moment.2,
      );
}

pub view_looks : (tells : Type 0) (patches : List Patch) (wrote : List ℕ) (refused : ℕ) (a b : Seen) (P : Type 0) → Looks a b P
    → Looks (view_seen tells patches wrote refused a) (view_seen tells patches wrote refused b) P
view_looks tells patches wrote refused a b P looks = record {
  still = view_still tells patches wrote refused a b looks.still;
  quiet = record { said = looks.quiet.said; heard = looks.quiet.heard; input = looks.quiet.input };
  cause = λ failed. view_rose refused a.disk_faults b.disk_faults (looks.cause failed);
}
  where
    view_rose : (n before after : ℕ) → Rose before after → Rose (before + n) (after + n)
    view_rose n before after (inl less) = inl (omega arith)
    view_rose n before after (inr last) = inr (omega arith)

-- ---- calls that write

-- a call that the view refuses
module _ (tells : Type 0) (patches : List Patch) (wrote next : List ℕ) (refused more : ℕ) (a : Seen) (rose : refused ≤ more)
    (only : (images : List (List ℕ)) (said : List ℕ) → a.left_since a.clock images said → Leaves a images × (said ≡ a.said))
    (counts : (t : ℕ) (images : List (List ℕ)) → t ≤ a.clock → Leaves a images → a.left_since t images a.said) where
  pub refused_later : Later (view_seen tells patches wrote refused a) (view_seen tells patches next more a)
  refused_later = record {
    sizes = refl;
    disk_faults = omega arith;
    talk_faults = omega arith;
    failed = grows_itself a.failed;
    said = begins_itself a.said;
    clock = omega arith;
    keeps = λ t images said le since. since;
    adds = λ t images said le since. record { moment = adds t images said le since; one_each = since.one_each; each = since.each };
    nothing_else = λ t images said le since. inl since;
  }
    where
      adds : (t : ℕ) (images : List (List ℕ)) (said : List ℕ) → t ≤ a.clock → IsShownSince tells patches a a.clock images said → (left : List (List ℕ)) × a.left_since t left said
      adds t images said le since =
          let now = only since.moment.0 said since.moment.1 in
          (since.moment.0, subst (λ (l : List ℕ). a.left_since t since.moment.0 l) (sym now.1) (counts t since.moment.0 le now.0))

  pub refused_writes : (disk at n : ℕ) → disk < length wrote → next ≡ set wrote disk (min (slice_index wrote disk + n) (2 ^ 64 - 1))
      → Writes disk at n (view_seen tells patches wrote refused a) (view_seen tells patches next more a)
  refused_writes disk at n lt is = record {
    later = refused_later;
    quiet = record { said = refl; heard = refl; input = refl };
    content = torn_at_itself disk at n (shown patches a.content);
    wrote = omega (arith, ap (λ (l : List ℕ). slice_index l disk) is, here);
    wrote_others = λ other ne. ap (λ (l : List ℕ). get_or l other 0) is ∙ get_or-set_other wrote disk other value 0 ne;
    left = λ c left. (c, left, torn_itself at n c);
    left_others = λ other c ne. (λ left. left, λ left. left);
    moments = λ images said since.
        let now = view_only tells patches wrote refused a counts only images said since in
        (images, now.0, torn_at_itself disk at n images, now.1);
  }
    where
      value : ℕ
      value = min (slice_index wrote disk + n) (2 ^ 64 - 1)

      here : slice_index (set wrote disk value) disk ≡ value
      here = get_or-set_same wrote disk value 0 lt

-- a sync, for which there is nothing to do
pub view_syncs : (tells : Type 0) (patches : List Patch) (wrote : List ℕ) (refused disk : ℕ) (a : Seen)
    → ((images : List (List ℕ)) (said : List ℕ) → a.left_since a.clock images said → Leaves a images × (said ≡ a.said))
    → ((t : ℕ) (images : List (List ℕ)) → t ≤ a.clock → Leaves a images → a.left_since t images a.said)
    → Syncs disk (view_seen tells patches wrote refused a) (view_seen tells patches wrote refused a)
view_syncs tells patches wrote refused disk a only counts = record {
  later = refused_later tells patches wrote wrote refused refused a (omega arith) only counts;
  quiet = record { said = refl; heard = refl; input = refl };
  content = refl;
  wrote = refl;
  left = λ c left. left;
  left_others = λ other c ne. (λ left. left, λ left. left);
  moments = λ images said since. view_only tells patches wrote refused a counts only images said since;
}

pub still_carries : (start a b : Seen) → ∥ Still start a ∥₁ → Still a b → ∥ Still start b ∥₁
still_carries start a b was still = ∥∥₁_map was (λ (s : Still start a). still_trans start a b s still)

pub lie_still : (patches : List Patch) (a b : Seen) → Still a b → ((k : ℕ) (p : Patch) → slice_get patches k ≡ Some p → IsOnDisk a.sizes p)
    → (k : ℕ) (p : Patch) → slice_get patches k ≡ Some p → IsOnDisk b.sizes p
lie_still patches a b still lie k p at = subst (λ (l : List ℕ). IsOnDisk l p) (sym still.later.sizes) (lie k p at)

-- what the view reads, by what the host reads and what is laid over it
pub view_filled : (patches : List Patch) (host : Seen) (disk at n : ℕ) (read piece : List ℕ) → disk < length host.sizes → at + n ≤ 512 * slice_index host.sizes disk
    → length host.content ≡ length host.sizes → length (image host.content disk) / 512 ≡ slice_index host.sizes disk
    → ((k : ℕ) (p : Patch) → slice_get patches k ≡ Some p → IsOnDisk host.sizes p)
    → length read ≡ n → read ≡ slice_range (image host.content disk) at (at + n)
    → ((whole : List ℕ) → at + length read ≤ length whole → FitAll patches disk (length whole) → read ≡ slice_range whole at (at + length read)
    → piece ≡ slice_range (patched patches disk whole) at (at + length read))
    → piece ≡ slice_range (image (shown patches host.content) disk) at (at + n)
view_filled patches host disk at n read piece lt range one_each size lie len is laid =
    laid (image host.content disk) (omega arith) fits (is ∙ ap (λ (m : ℕ). slice_range (image host.content disk) at (at + m)) (sym len))
    ∙ ap (λ (m : ℕ). slice_range (patched patches disk (image host.content disk)) at (at + m)) len
    ∙ ap (λ (l : List ℕ). slice_range l at (at + n)) (sym (image_shown patches disk host.content (subst (λ (m : ℕ). disk < m) (sym one_each) lt)))
  where
    fits : FitAll patches disk (length (image host.content disk))
    fits k p there is_here =
        let end : p.at + length p.bytes.items ≤ 512 * slice_index host.sizes disk = subst (λ (d : ℕ). p.at + length p.bytes.items ≤ 512 * slice_index host.sizes d) is_here (lie k p there).range in
        omega arith

-- ---- writes

pub put_nothing : (old : List ℕ) (at : ℕ) (bytes : List ℕ) → bytes ≡ [] → put old at bytes ≡ old
put_nothing old at bytes none =
    ap (λ (l : List ℕ). put old at l) none
    ∙ ap (λ (l : List ℕ). l ++ drop (at + 0) old) (append-nil (take at old))
    ∙ ap (λ (n : ℕ). take at old ++ drop n old) (omega arith)
    ∙ take-append-drop at old

pub set_nothing : (images : List (List ℕ)) (disk at : ℕ) (bytes : List ℕ) → bytes ≡ [] → images ≡ set images disk (put (image images disk) at bytes)
set_nothing images disk at bytes none = sym (ap (set images disk) (put_nothing (image images disk) at bytes none) ∙ set-get_or images disk [])

-- no disk was handed a byte only where none was now either, nor before
pub none_handed : (wrote next : List ℕ) (disk n : ℕ) → disk < length wrote → next ≡ set wrote disk (min (slice_index wrote disk + n) (2 ^ 64 - 1))
    → ((k : ℕ) → slice_index next k ≡ 0) → (n ≡ 0) × ((k : ℕ) → slice_index wrote k ≡ 0)
none_handed wrote next disk n lt is none = (omega (arith, zero_sum), each)
  where
    value : ℕ
    value = min (slice_index wrote disk + n) (2 ^ 64 - 1)

    zero_sum : min (slice_index wrote disk + n) (2 ^ 64 - 1) ≡ 0
    zero_sum = sym (ap (λ (l : List ℕ). slice_index l disk) is ∙ get_or-set_same wrote disk value 0 lt) ∙ none disk

    each : (k : ℕ) → slice_index wrote k ≡ 0
    each k = elim (cases_eq k disk) [
      | inl here ↦ ap (slice_index wrote) here ∙ omega (arith, zero_sum)
      | inr ne ↦ sym (ap (λ (l : List ℕ). slice_index l k) is ∙ get_or-set_other wrote disk k value 0 ne) ∙ none k
    ]

-- ---- patches

get_snoc : (patches : List Patch) (p q : Patch) (k : ℕ) → slice_get (patches ++ p ∷ []) k ≡ Some q → (slice_get patches k ≡ Some q) ⊎ (p ≡ q)
get_snoc [] p q zero at = inr (same_Some p q at)
get_snoc [] p q (suc k) at = absurd cc
get_snoc (r ∷ more) p q zero at = inl at
get_snoc (r ∷ more) p q (suc k) at = get_snoc more p q k at

pub lie_more : (sizes : List ℕ) (patches next : List Patch) (p : Patch) (ok : Bool) → next ≡ (if ok then patches ++ p ∷ [] else patches) → IsOnDisk sizes p
    → ((k : ℕ) (q : Patch) → slice_get patches k ≡ Some q → IsOnDisk sizes q) → (k : ℕ) (q : Patch) → slice_get next k ≡ Some q → IsOnDisk sizes q
lie_more sizes patches next p true is here lie k q at =
    elim (get_snoc patches p q k (subst (λ (l : List Patch). slice_get l k ≡ Some q) is at)) [
      | inl before ↦ lie k q before
      | inr same ↦ subst (IsOnDisk sizes) same here
    ]
lie_more sizes patches next p false is here lie k q at = lie k q (subst (λ (l : List Patch). slice_get l k ≡ Some q) is at)

-- patches that are equal show the same
pub shows_as : (old new : List Patch) (disk : ℕ) (bytes : List ℕ) → ∥ new ≡ old ∥₁ → patched new disk bytes ≡ patched old disk bytes
shows_as old new disk bytes same = ∥∥₁_elim same (hlevel props) (λ (is : new ≡ old). ap (λ (l : List Patch). patched l disk bytes) is)
