-- The laws of bytes that agree with the front of a file. Assumes nothing.
use Rattle.std.specs.Prelude.{ℕ, ◌+◌, ◌-◌, ◌≤◌, min, ◌≡◌, List, ◌++◌, length, take, drop, ltb}
use Rattle.std.proofs.Common.{arith, sym, ap, ◌∙◌, length-append, length-drop, length-take, take_all, take-add, take-take, length-take-le, ltb-true, ltb-false}
use Rattle.std.proofs.lemmas.List.{take-append-le}
use Rattle.std.proofs.Math.Seq.{take-append-add}
use borrow.Rule.Slice.PartMut.{put_mid, take_put}
use Rattle.row_format.specs.Lists.Laws.{by-test}
use Rattle.pgm_to_sheet.specs.Picture.{Agrees, SpanHeld}

-- a part of the front does
pub agrees-front : (k : ℕ) (front : List ℕ) → k ≤ length front → Agrees front (take k front)
agrees-front k front h =
    let size = length-take-le k front h in
    take_all (length front) (take k front) (omega (arith, size)) ∙ ap (λ (n : ℕ). take n front) (sym size)

-- bytes a that do, and then more that agree with what follows them
pub agrees-more : (front a held : List ℕ) → Agrees front a → Agrees (drop (length a) front) held → Agrees front (a ++ held)
agrees-more front a held first rest =
    let used = length a in
    let total : length (a ++ held) ≡ used + length held = length-append a held in
    by-test (ltb (length front) used)
    (λ t.
    let past = ltb-true (length front) used t in
    take-append-le (length front) a held (omega arith)
    ∙ first
    ∙ take_all used front (omega arith)
    ∙ sym (take_all (length (a ++ held)) front (omega (arith, total))))
    (λ t.
    let inside = ltb-false (length front) used t in
    let left : length front ≡ used + length (drop used front) = omega (arith, length-drop used front) in
    let same : a ≡ take used front = sym (take_all (length front) a inside) ∙ first in
    ap (λ (n : ℕ). take n (a ++ held)) left
    ∙ take-append-add a held (length (drop used front))
    ∙ ap (a ++◌) rest
    ∙ ap (◌++ take (length held) (drop used front)) same
    ∙ sym (take-add used (length held) front)
    ∙ ap (λ (n : ℕ). take n front) (sym total))

-- of the bytes that are held of a row, at most so many, the first n are from the front: all that it has, or enough
pub agrees-filled : (front held : List ℕ) (span n : ℕ) → n ≡ min span (length front) → n ≤ length held → length held ≤ span
    → take n held ≡ take n front → Agrees front held
agrees-filled front held span n is some few same =
    by-test (ltb (length front) span)
    (λ t.
    let past = ltb-true (length front) span t in
    let all : n ≡ length front = omega (arith, is) in
    ap (λ (k : ℕ). take k held) (sym all)
    ∙ same
    ∙ take_all n front (omega arith)
    ∙ sym (take_all (length held) front (omega arith)))
    (λ t.
    let inside = ltb-false (length front) span t in
    let whole : length held ≡ n = omega (arith, is) in
    take_all (length front) held (omega (arith, is))
    ∙ sym (take_all n held (omega arith))
    ∙ same
    ∙ ap (λ (k : ℕ). take k front) (sym whole))

-- a row's memory m, whose first n bytes are from the front, after count bytes more came
pub held-filled : (front m y : List ℕ) (span n count : ℕ) → n ≡ min span (length front) → n + count ≤ span → n ≤ length m
    → take n m ≡ take n front → SpanHeld front (take (n + count) (put_mid n (span - n) m y)) span
held-filled front m y span n count is most there same =
    let all = put_mid n (span - n) m y in
    let held = take (n + count) all in
    let kept : take n held ≡ take n m = take-take n (n + count) all (omega arith) ∙ take_put n (span - n) m y there in
    let size : n ≤ length held = omega (arith, ap length kept, length-take n held, length-take n m) in
    let few : length held ≤ span = omega (arith, length-take (n + count) all) in
    record { most = few; least = omega (arith, is, size); agrees = agrees-filled front held span n is size few (kept ∙ same) }
