-- extend of a mirror: what lengths that nothing stands against are.
use Rattle.std.proofs.Common.{◌≡◌, ℕ, ◌+◌, ◌<◌, ◌==◌, ◌||◌, not, false, List, [], ◌∷◌, length, get_or, arith, eqb-true}
use Rattle.ldm_edits.proofs.Common.{Record, Component, Wanted}
use Rattle.std.specs.List.{All}
use Rattle.std.proofs.lemmas.Bool.{not-false, or_parts, eqb-false}
use Rattle.ldm_edits.specs.Asked.{is_much}
use Rattle.ldm_edits.specs.Mirroring.{component_holds}
use Rattle.ldm_edits.proofs.AskedLaws.{low_size}
use Rattle.ldm_group.proofs.ListLaws.{none_any}
use Rattle.ldm_edits.specs.Extended.{len_of, is_uneven, is_bad_growth, IsEven}

-- one length, and it isn't 0
even_sizes : (len : ℕ) (wanted : List Wanted) → is_uneven len wanted ≡ false → All (λ w. (w.size ≡ len) × ((w.size == 0) ≡ false)) wanted
even_sizes len wanted h k d lt =
    let w : Wanted = get_or wanted k d in
    let parts = or_parts (w.size == 0) (not (w.size == len)) (none_any (λ (x : Wanted). (x.size == 0) || not (x.size == len)) wanted h k d lt) in
    (eqb-true w.size len (not-false (w.size == len) parts.1), parts.0)

-- a mirror has a component, so there is a piece
some_len : (wanted : List Wanted) → 0 < length wanted → All (λ w. (w.size ≡ len_of wanted) × ((w.size == 0) ≡ false)) wanted → (len_of wanted == 0) ≡ false
some_len [] some all = absurd (omega arith)
some_len (w ∷ ws) some all = (all 0 w (omega arith)).1

pub good_lengths : (records : List Record) (capacity : ℕ) (cs : List Component) (wanted : List Wanted) → is_bad_growth records capacity cs wanted ≡ false → IsEven records capacity cs wanted
good_lengths records capacity cs wanted good =
    let one = or_parts (is_uneven (len_of wanted) wanted) _ good in
    let two = or_parts (is_much (capacity + len_of wanted)) _ one.1 in
    let sizes = even_sizes (len_of wanted) wanted one.0 in
    record {
      room = low_size (capacity + len_of wanted) two.0;
      low = λ k d lt. low_size (component_holds records (get_or cs k d)) (none_any (λ (c : Component). is_much (component_holds records c)) cs two.1 k d lt);
      some = λ k d lt. (let other = eqb-false (get_or wanted k d).size 0 (sizes k d lt).1 in omega arith);
      same = λ k d lt. (sizes k d lt).0;
      len = λ some. some_len wanted some sizes;
    }
