use Rattle.std.proofs.Common.{◌≡◌, ℕ, ◌+◌, ◌*◌, ◌++◌, List, [], length, refl, sym, ◌∙◌, ap, subst, arith, append_assoc}
use Rattle.std.specs.Option.{option_to_list}
use Rattle.std.proofs.lemmas.List.{append-nil, length-take}
use Rattle.ldm_host.specs.Moves.{Begins}
use Rattle.ldm_host.proofs.Relations.{still_itself, still_trans}
use Rattle.ldm_dump.proofs.ByteLaws.{begins_of}
use Rattle.ldm_host.specs.Failed.{failed_since}
use Rattle.ldm_rescue.specs.declared.losses.Loss.{Loss}
use Rattle.ldm_rescue.specs.Losses.{AreRanges}
use Rattle.ldm_rescue.specs.Told.{AreTold}
use Rattle.ldm_rescue.proofs.ToldLaws.{nothing_yet, so_far_as, since_then, since_same, front_bytes, at_content, told_at}
use Rattle.ldm_rescue.proofs.saying.rescue_sectors.Goals as goal

pub pieces-init : goal.pieces-init
pieces-init g c =
    let host = g.H.Host.seen c.args.host.now in
    record {
      still = still_itself host (g.met.H.Host.counts_now c.args.host.now) (g.met.H.Host.only_now c.args.host.now);
      input = record { input = refl; heard = refl };
      within = omega arith;
      lost = omega arith;
      bytes = [];
      said = λ tells. sym (append-nil host.said);
      so_far = nothing_yet _ _ host.content host.failed (g.L.Losses.lost c.args.losses.now) c.args.found.now c.args.plan.now c.args.first;
    }

pub pieces-preserved : goal.pieces-preserved
pieces-preserved g c =
    let inv = c.pieces.invariant in
    let piece = c.rescue_piece.ensures in
    let say = c.in_ok-say.ensures in
    let old = g.H.Host.seen c.args.host.now in
    let mid = g.H.Host.seen c.pieces.host in
    let read = g.H.Host.seen c.rescue_piece.new.host in
    let new = g.H.Host.seen c.say.new.self in
    let part : List ℕ = c.rescue_piece.new.buffer in
    let n = c.min-next.result in
    let size : length part ≡ 512 * n = omega (arith, c.rescue_piece.auto.buffer, length-take {A = ℕ}) in
    record {
      still = still_trans _ _ _ inv.still (still_trans _ _ _ piece.looks.still say.still);
      input = record { input = say.input ∙ (piece.looks.quiet.input ∙ inv.input.input); heard = say.heard ∙ (piece.looks.quiet.heard ∙ inv.input.heard) };
      within = omega arith;
      lost = omega (arith, piece.few);
      bytes = inv.bytes ++ part;
      said = λ tells. say.said (g.met.H.Host.tells_both tells)
          ∙ (ap (λ (t : List ℕ). read.said ++ t) (front_bytes n part _ size)
          ∙ (ap (λ (t : List ℕ). t ++ part) (piece.looks.quiet.said ∙ inv.said tells)
          ∙ append_assoc old.said inv.bytes part));
      so_far = so_far_as _ _ _ (failed_since old mid ++ failed_since mid read) _ _ _ _ _ _ _ (c.pieces.done + n) _ (inv.bytes ++ part) _
          (since_same old.failed read.failed new.failed say.account ∙ since_then old.failed mid.failed read.failed inv.still.later.failed piece.looks.still.later.failed) refl refl
          (at_content g.H.Host.tells_disks g.L.Losses.tells old.content mid.content _ _ _ _ _ _ _ _ _ inv.still.content
          (piece.so_far (failed_since old mid) (g.L.Losses.lost c.args.losses.now) c.args.first c.pieces.done inv.bytes refl
          (at_content g.H.Host.tells_disks g.L.Losses.tells mid.content old.content _ _ _ _ _ _ _ _ _ (sym inv.still.content) inv.so_far)));
    }

pub returns-in_err-say-clause-front : goal.returns-in_err-say-clause-front
returns-in_err-say-clause-front g c tells failed =
    let inv = c.pieces.invariant in
    let piece = c.rescue_piece.ensures in
    let say = c.in_err-say.ensures in
    let old = g.H.Host.seen c.args.host.now in
    let mid = g.H.Host.seen c.pieces.host in
    let read = g.H.Host.seen c.rescue_piece.new.host in
    let new = g.H.Host.seen c.say.new.self in
    let part : List ℕ = c.rescue_piece.new.buffer in
    let n = c.min-next.result in
    let size : length part ≡ 512 * n = omega (arith, c.rescue_piece.auto.buffer, length-take {A = ℕ}) in
    let next = piece.so_far (failed_since old mid) (g.L.Losses.lost c.args.losses.now) c.args.first c.pieces.done inv.bytes refl
    (at_content g.H.Host.tells_disks g.L.Losses.tells mid.content old.content _ _ _ _ _ _ _ _ _ (sym inv.still.content) inv.so_far) in
    let before : read.said ++ part ≡ old.said ++ (inv.bytes ++ part) =
    ap (λ (t : List ℕ). t ++ part) (piece.looks.quiet.said ∙ inv.said tells) ∙ append_assoc old.said inv.bytes part in
    let account : failed_since old new ≡ failed_since old mid ++ failed_since mid read =
    since_same old.failed read.failed new.failed say.account ∙ since_then old.failed mid.failed read.failed inv.still.later.failed piece.looks.still.later.failed in (
      c.pieces.done + n,
      inv.bytes ++ part,
      next.told ++ option_to_list c.rescue_piece.new.losing.last,
      omega arith,
      subst (λ (t : List ℕ). Begins new.said t) before (begins_of read.said part _ new.said (front_bytes n part _ size) say.front),
      told_at old.content mid.content (failed_since old mid ++ failed_since mid read) (failed_since old new) c.args.found.now c.args.plan.now c.args.first (c.pieces.done + n) (inv.bytes ++ part) (next.told ++ option_to_list c.rescue_piece.new.losing.last) inv.still.content account (next.are tells),
    )

pub returns-in_err-say-clause-still : goal.returns-in_err-say-clause-still
returns-in_err-say-clause-still g c = still_trans _ _ _ c.pieces.invariant.still (still_trans _ _ _ c.rescue_piece.ensures.looks.still c.in_err-say.ensures.still)

pub returns-clause-said : goal.returns-clause-said
returns-clause-said g c tells =
    let inv = c.pieces.invariant in
    let so = inv.so_far in
    let old = g.H.Host.seen c.args.host.now in
    let now = g.H.Host.seen c.pieces.host in
    let all : c.pieces.done ≡ c.args.count = omega (arith, inv.within, c.pieces-test.false) in
    let losses : List Loss = so.told ++ option_to_list c.pieces.losing.last in (
      inv.bytes,
      losses,
      inv.said tells,
      λ hears. c.end_last.ensures hears
          ∙ (ap (λ (l : List Loss). l ++ option_to_list c.pieces.losing.last) (so.heard hears)
          ∙ append_assoc (g.L.Losses.lost c.args.losses.now) so.told (option_to_list c.pieces.losing.last)),
      subst (λ (k : ℕ). AreTold old.content (failed_since old now) c.args.found.now c.args.plan.now c.args.first k inv.bytes losses) all (so.are tells),
      subst (λ (k : ℕ). AreRanges c.args.first (c.args.first + k) losses) all so.ranges,
      so.lost,
    )
