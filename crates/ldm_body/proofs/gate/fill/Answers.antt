use Rattle.std.proofs.Common.{◌≡◌, ◌+◌, ◌-◌, ◌<◌, ℕ, List, length, drop, take, slice_index, ◌∙◌, ap, subst, arith, length-take, length-drop}
use Rattle.std.proofs.lemmas.List.{get_or-take, get_or-drop}
use Rattle.ldm_host.specs.Seen.{image}
use Rattle.ldm_host.specs.Moves.{Writes}
use Rattle.ldm_host.proofs.Relations.{writes_syncs}
use Rattle.ldm_copy.specs.Copy.{gate_at}
use Rattle.ldm_body.proofs.RewriteLaws.{on_ok_map, area_on, left_byte, some_bytes}
use Rattle.ldm_body.proofs.gate.fill.Goals as goal

pub slice_bounds-write_at-count : goal.slice_bounds-write_at-count
slice_bounds-write_at-count g c = omega (arith, some_bytes c.args.body.now c.as_slice.ensures.body, ap length c.as_slice.ensures.value)

pub slice_bounds-write_at-start : goal.slice_bounds-write_at-start
slice_bounds-write_at-start g c = omega (arith, some_bytes c.args.body.now c.as_slice.ensures.body, ap length c.as_slice.ensures.value)

-- the bytes behind the first
rest : List ℕ → List ℕ
rest body = take (length body - 1) (drop 1 body)

rest_length : (body : List ℕ) → length (rest body) ≡ length body - 1
unfolding rest
rest_length body = omega (arith, length-take (length body - 1) (drop 1 body), length-drop 1 body)

rest_byte : (body : List ℕ) (j : ℕ) → j < length body - 1 → slice_index (rest body) j ≡ slice_index body (1 + j)
unfolding rest
rest_byte body j lt = get_or-take (length body - 1) (drop 1 body) j 0 lt ∙ get_or-drop 1 body j 0

pub returns-clause-writes : goal.returns-clause-writes
unfolding rest
returns-clause-writes g c =
    let seen = g.H.Host.seen in
    let a = seen c.args.host.now in
    let d = seen c.sync.new.self in
    let bytes = c.as_slice.result.now in
    let size : length (rest bytes) ≡ length c.args.body.now - 1 = rest_length bytes ∙ ap (λ (l : List ℕ). length l - 1) c.as_slice.ensures.value in
    let at : c.gate_at-at.result + 1 ≡ gate_at c.args.label.now + 1 = ap (λ (k : ℕ). k + 1) c.gate_at-at.ensures.is in
    subst (λ (k : ℕ). Writes c.args.disk k (length c.args.body.now - 1) a d) at (subst (λ (k : ℕ). Writes c.args.disk (c.gate_at-at.result + 1) k a d) size
    (writes_syncs c.args.disk (c.gate_at-at.result + 1) (length (rest bytes)) a (seen c.write_at.new.self) d c.requires.disk c.write_at.ensures.writes c.sync.ensures.syncs))

pub returns-clause-filled : goal.returns-clause-filled
unfolding rest
returns-clause-filled g c tells =
    let seen = g.H.Host.seen in
    let a = seen c.args.host.now in
    let at = c.gate_at-at.result in
    let bytes = c.as_slice.result.now in
    let is : at ≡ gate_at c.args.label.now = c.gate_at-at.ensures.is in
    let value : bytes ≡ c.args.body.now = c.as_slice.ensures.value in
    let size : length (rest bytes) ≡ length c.args.body.now - 1 = rest_length bytes ∙ ap (λ (l : List ℕ). length l - 1) value in
    let on = area_on c.args.label.now (slice_index a.sizes c.args.disk) (image a.content c.args.disk) c.requires.fits (g.met.H.Host.lengths tells c.args.host.now c.args.disk c.requires.disk) in
    let lt : c.args.disk < length a.content = omega (arith, g.met.H.Host.one_each tells c.args.host.now, c.requires.disk) in
    let many = some_bytes c.args.body.now c.as_slice.ensures.body in
    on_ok_map c.sync.result _ _ (λ settled x left k low high.
    let j : ℕ = k - 1 in
    let near : j < length c.args.body.now - 1 = omega (arith, low, high) in
    ap (λ (n : ℕ). slice_index x n) (let e : gate_at c.args.label.now + k ≡ at + 1 + j = omega (arith, is, low) in e)
    ∙ left_byte c.args.disk (at + 1) j (rest bytes) a (seen c.write_at.new.self) (seen c.sync.new.self) lt (omega (arith, on, is, size, many, c.requires.room))
    (c.in_ok-write_at.ensures.written tells) c.sync.ensures.syncs.content (omega (arith, size, near)) settled x left
    ∙ rest_byte bytes j (omega (arith, near, ap length value))
    ∙ ap (λ (l : List ℕ). slice_index l (1 + j)) value
    ∙ ap (λ (n : ℕ). slice_index c.args.body.now n) (let e : 1 + j ≡ k = omega (arith, low) in e))
    c.sync.ensures.settled
