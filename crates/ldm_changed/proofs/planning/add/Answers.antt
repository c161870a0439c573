use Rattle.std.proofs.Common.{◌≡◌, ◌≢◌, ◌+◌, ◌-◌, ℕ, List, [], ◌∷◌, ◌++◌, length, take, drop, All, sym, ap, subst, ◌∙◌, arith}
use Rattle.ldm_records.specs.Plain.{own_spelling}
use Rattle.ldm_records.specs.Views.{plain_of}
use Rattle.ldm_vmdb.specs.Parts.{parts_of}
use Rattle.ldm_written.specs.Written.{IsPlaced}
use Rattle.ldm_group.specs.Room.{own_len}
use Rattle.ldm_changed.specs.Plan.{slots_from}
use Rattle.ldm_changed.proofs.PlanLaws.{slots_apart, own_len_is}
use Rattle.ldm_changed.proofs.planning.add.Goals as goal

pub parts_of-requires-clause-few : goal.parts_of-requires-clause-few
parts_of-requires-clause-few c =
    let e = c.as_slice-bytes.ensures ∙ c.in_ok-payload.ensures.own in
    let size : length c.as_slice-bytes.result.now ≡ own_len c.args.r.now = ap (λ (l : List ℕ). length l) e ∙ sym (own_len_is c.args.r.now) in
    omega (arith, size, c.requires.fits)

pub slice_bounds-from_slice-end : goal.slice_bounds-from_slice-end
slice_bounds-from_slice-end c =
    let e = c.as_slice-bytes.ensures ∙ c.in_ok-payload.ensures.own in
    let size : length c.as_slice-bytes.result.now ≡ own_len c.args.r.now = ap (λ (l : List ℕ). length l) e ∙ sym (own_len_is c.args.r.now) in
    let parts : c.parts_of.result ≡ parts_of (own_len c.args.r.now) = c.parts_of.ensures ∙ ap parts_of size in
    omega (arith, parts, c.requires.room)

pub write_record-requires-clause-few : goal.write_record-requires-clause-few
write_record-requires-clause-few c =
    let e = c.as_slice-bytes.ensures ∙ c.in_ok-payload.ensures.own in
    let size : length c.as_slice-bytes.result.now ≡ own_len c.args.r.now = ap (λ (l : List ℕ). length l) e ∙ sym (own_len_is c.args.r.now) in
    omega (arith, size, c.requires.fits)

pub write_record-requires-clause-apart : goal.write_record-requires-clause-apart
write_record-requires-clause-apart c =
    slots_apart c.args.free.now c.from_vec-slots.result c.args.at _ c.requires.apart (c.from_vec-slots.ensures ∙ c.in_ok-from_slice.ensures.items)

pub returns : goal.returns
returns c =
    let r = c.args.r.now in
    let free = c.args.free.now in
    let at = c.args.at in
    let e : c.as_slice-bytes.result.now ≡ own_spelling (plain_of r) = c.as_slice-bytes.ensures ∙ c.in_ok-payload.ensures.own in
    let parts : c.parts_of.result ≡ parts_of (own_len r) = c.parts_of.ensures ∙ ap (λ (l : List ℕ). parts_of (length l)) e ∙ ap parts_of (sym (own_len_is r)) in
    let span : at + c.parts_of.result - at ≡ parts_of (own_len r) = omega (arith, parts) in
    let slots : c.from_vec-slots.result ≡ slots_from r free at = c.from_vec-slots.ensures ∙ c.in_ok-from_slice.ensures.items ∙ ap (λ (n : ℕ). take n (drop at free)) span in
    record {
      next_is = ap (λ (n : ℕ). at + n) parts;
      made_is = c.in_ok-push.ensures.items ∙ ap (λ (s : List ℕ). c.args.made.now.items ++ s ∷ []) slots;
      sound = c.spelled_len-len.ensures.sound;
      placed =
          subst (λ (p : List ℕ). IsPlaced c.write_record.new.out (record { payload = p; slots = slots_from r free at })) e
          (subst (λ (s : List ℕ). IsPlaced c.write_record.new.out (record { payload = c.as_slice-bytes.result.now; slots = s })) slots c.write_record.ensures.placed);
      others = λ b low avoid. c.write_record.ensures.others b low (subst (λ (s : List ℕ). All (λ n. n ≢ b) s) (sym slots) avoid);
    }
