-- A payload that is read is spelled so, and one that is spelled is read.
use Rattle.std.proofs.Common.{◌≡◌, ℕ, ◌+◌, ◌^◌, ◌<◌, ◌≤◌, false, cond, ltb, leb, List, [], ◌∷◌, ◌++◌, length, slice_index, take, drop, Option, Some, None, refl, sym, ap, subst, ◌∙◌, append_assoc, arith}
use Rattle.std.proofs.lemmas.Bool.{ltb-false, le-ltb, leb-false, lt-leb}
use Rattle.std.proofs.lemmas.List.{take_at, take-append-drop, length-append, length-take-le, length-drop}
use Rattle.byteorder.specs.Endian.{big_number, big_bytes}
use Rattle.byteorder.specs.Numbers.{big_from-lt, big_number-reads_back}
use Rattle.ldm_bytes.proofs.NumberLaws.{guard_some, some_is}
use Rattle.ldm_bytes.specs.Numbers.{IsBytes}
use Rattle.ldm_bytes.proofs.ByteLaws.{IsBytes-take, IsBytes-drop}
use Rattle.ldm_records.specs.Table.{kinds_of}
use Rattle.ldm_records.specs.Plain.{Plain, made, head_bytes, body_len, Spells}
use Rattle.ldm_payloads.specs.Steps.{◌>>=◌, read_values, with_room, fields_at, typed_at, plain_at}
use Rattle.ldm_bytes.proofs.BigLaws.{big_back}
use Rattle.ldm_records.proofs.PlainLaws.{own_body_len, own-len}
use Rattle.ldm_payloads.proofs.ValueReads.{bind_some, values_take, values_again}

room_ok : (room : ℕ) (p q : Plain) → with_room room p ≡ Some q → (p ≡ q) × (8 + body_len p ≤ room) × (body_len p < 2 ^ 32)
room_ok room p q e =
    let a = guard_some (ltb room (8 + body_len p)) (cond (leb (2 ^ 32) (body_len p)) None (Some p)) q e in
    let b = guard_some (leb (2 ^ 32) (body_len p)) (Some p) q a.1 in
    (some_is p q b.1, ltb-false _ _ a.0, leb-false _ _ b.0)

has_room : (room : ℕ) (p : Plain) → 8 + body_len p ≤ room → body_len p < 2 ^ 32 → with_room room p ≡ Some p
has_room room p h k =
    let a : ltb room (8 + body_len p) ≡ false = le-ltb _ _ h in
    let b : leb (2 ^ 32) (body_len p) ≡ false = lt-leb _ _ k in
    rw (a, b) refl

-- the head's eight bytes
split_head : (bytes : List ℕ) → 8 ≤ length bytes → bytes ≡ (take 2 bytes ++ slice_index bytes 2 ∷ slice_index bytes 3 ∷ take 4 (drop 4 bytes)) ++ drop 8 bytes
split_head [] h = absurd (omega arith)
split_head (a ∷ []) h = absurd (omega arith)
split_head (a ∷ b ∷ []) h = absurd (omega arith)
split_head (a ∷ b ∷ c ∷ []) h = absurd (omega arith)
split_head (a ∷ b ∷ c ∷ d ∷ []) h = absurd (omega arith)
split_head (a ∷ b ∷ c ∷ d ∷ e ∷ []) h = absurd (omega arith)
split_head (a ∷ b ∷ c ∷ d ∷ e ∷ f ∷ []) h = absurd (omega arith)
split_head (a ∷ b ∷ c ∷ d ∷ e ∷ f ∷ g ∷ []) h = absurd (omega arith)
split_head (a ∷ b ∷ c ∷ d ∷ e ∷ f ∷ g ∷ i ∷ rest) h = refl

-- a head, a body of its length, and the filling
framed : (payload : List ℕ) (p : Plain) (len : ℕ) → 8 ≤ length payload → IsBytes payload
    → p.mark ≡ big_number 2 payload → p.flags ≡ slice_index payload 2 → p.type ≡ slice_index payload 3 → len ≡ big_number 4 (drop 4 payload)
    → payload ≡ head_bytes p len ++ take len (drop 8 payload) ++ drop len (drop 8 payload)
framed payload p len long h mark flags type len-is =
    let m : big_bytes 2 p.mark ≡ take 2 payload = ap (big_bytes 2) mark ∙ big_back 2 payload (omega arith) h in
    let l : big_bytes 4 len ≡ take 4 (drop 4 payload) = ap (big_bytes 4) len-is ∙ big_back 4 (drop 4 payload) (omega (arith, length-drop 4 payload)) (IsBytes-drop 4 payload h) in
    let head : head_bytes p len ≡ take 2 payload ++ slice_index payload 2 ∷ slice_index payload 3 ∷ take 4 (drop 4 payload) =
    ap (λ (x : List ℕ). x ++ p.flags ∷ p.type ∷ big_bytes 4 len) m ∙ ap (λ (x : ℕ). take 2 payload ++ x ∷ p.type ∷ big_bytes 4 len) flags ∙ ap (λ (x : ℕ). take 2 payload ++ slice_index payload 2 ∷ x ∷ big_bytes 4 len) type ∙ ap (λ (x : List ℕ). take 2 payload ++ slice_index payload 2 ∷ slice_index payload 3 ∷ x) l in
    split_head payload long
    ∙ ap (λ (x : List ℕ). x ++ drop 8 payload) (sym head)
    ∙ ap (λ (x : List ℕ). head_bytes p len ++ x) (sym (take-append-drop len (drop 8 payload)))
    ∙ sym (append_assoc (head_bytes p len) (take len (drop 8 payload)) (drop len (drop 8 payload)))

pub plain_takes : (payload : List ℕ) (p : Plain) → IsBytes payload → plain_at payload ≡ Some p → Spells p payload
unfolding plain_at typed_at fields_at
plain_takes payload p h e =
    let len : ℕ = big_number 4 (drop 4 payload) in
    let mark : ℕ = big_number 2 payload in
    let flags : ℕ = slice_index payload 2 in
    let type : ℕ = slice_index payload 3 in
    let body : List ℕ = take len (drop 8 payload) in
    let rest_2 : Option Plain = kinds_of type flags >>= λ kinds. fields_at mark flags type kinds (length payload) body in
    let a = guard_some (ltb (length payload) 8) (cond (ltb (length payload) (8 + len)) None rest_2) p e in
    let long : 8 ≤ length payload = ltb-false _ _ a.0 in
    let b = guard_some (ltb (length payload) (8 + len)) rest_2 p a.1 in
    let whole : 8 + len ≤ length payload = ltb-false _ _ b.0 in
    let c = bind_some (kinds_of type flags) (λ kinds. fields_at mark flags type kinds (length payload) body) p b.1 in
    let d = bind_some (read_values c.0 body) (λ x. with_room (length payload) (made mark flags type x)) p c.2 in
    let r = room_ok (length payload) (made mark flags type d.0) p d.2 in
    let t = values_take c.0 body d.0 (IsBytes-take len (drop 8 payload) (IsBytes-drop 8 payload h)) d.1 in
    let q : Plain = made mark flags type d.0 in
    let body-len : length (t.0 ++ d.0.1) ≡ len = ap length (sym t.3) ∙ length-take-le len (drop 8 payload) (omega (arith, length-drop 8 payload)) in
    let below : len < 2 ^ 32 = big_from-lt 0 4 (drop 4 payload) (IsBytes-drop 4 payload h) in
    let frame = framed payload q (length (t.0 ++ d.0.1)) long h refl refl refl body-len in
    let body-is : take (length (t.0 ++ d.0.1)) (drop 8 payload) ≡ t.0 ++ d.0.1 = ap (λ (k : ℕ). take k (drop 8 payload)) body-len ∙ t.3 in
    let spells : Spells q payload = record {
      sound = record { mark = big_from-lt 0 2 payload h; kinds = c.0; known = c.1; fields = t.1; short = omega (arith, own_body_len q, r.2) };
      text = t.0;
      filling = drop (length (t.0 ++ d.0.1)) (drop 8 payload);
      spelled = t.2;
      whole = frame ∙ ap (λ (x : List ℕ). head_bytes q (length (t.0 ++ d.0.1)) ++ x ++ drop (length (t.0 ++ d.0.1)) (drop 8 payload)) body-is;
      short = omega arith;
      room = omega (arith, own-len q, r.1);
    } in
    subst (λ (x : Plain). Spells x payload) r.0 spells

pub plain_again : (payload : List ℕ) (p : Plain) → Spells p payload → plain_at payload ≡ Some p
unfolding plain_at typed_at fields_at
plain_again payload p s =
    let body : List ℕ = s.text ++ p.tail in
    let len : ℕ = length body in
    let spelled : List ℕ = head_bytes p len ++ body ++ s.filling in
    let total : length spelled ≡ 8 + len + length s.filling = omega (arith, length-append body s.filling) in
    let long : ltb (length spelled) 8 ≡ false = le-ltb _ _ (omega arith) in
    let len-is : big_number 4 (drop 4 spelled) ≡ len = big_number-reads_back 4 len (body ++ s.filling) s.short in
    let mark-is : big_number 2 spelled ≡ p.mark = big_number-reads_back 2 p.mark (p.flags ∷ p.type ∷ big_bytes 4 len ++ (body ++ s.filling)) s.sound.mark in
    let whole : ltb (length spelled) (8 + len) ≡ false = le-ltb _ _ (omega arith) in
    let body-is : take len (body ++ s.filling) ≡ body = take_at body s.filling len refl in
    let parts-is : read_values s.sound.kinds body ≡ Some (p.fields, p.tail) = values_again s.sound.kinds p.fields s.text p.tail s.sound.fields s.spelled in
    let room : with_room (length spelled) p ≡ Some p = has_room (length spelled) p (omega (arith, own-len p, s.room, ap length s.whole)) (omega (arith, own_body_len p, s.sound.short)) in
    ap plain_at s.whole ∙ rw (long, len-is, whole, mark-is, s.sound.known, body-is, parts-is, room) refl
