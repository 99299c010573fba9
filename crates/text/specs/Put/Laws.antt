-- The laws of bytes put into memory. Assumes nothing.
use Rattle.std.specs.Prelude.{ℕ, suc, ◌+◌, ◌≤◌, ◌<◌, ◌≡◌, refl, List, [], ◌∷◌, ◌++◌, length, take, drop, set}
use Rattle.std.proofs.Common.{zero-add, add-zero, add-one, arith, sym, ap, ◌∙◌, append_assoc, append-nil, length-append, take-append-drop, drop-drop}
use Rattle.std.proofs.lemmas.List.{set_split}
use Rattle.std.proofs.Math.Seq.{append_snoc}
use Rattle.bitstream.specs.Memory.{overwritten}
use Rattle.bitstream.specs.Memory.Laws.{take-overwritten, drop-overwritten}
use Rattle.text.specs.Put.{Put}

pub put-none : (m : List ℕ) (at : ℕ) → Put m at [] at m
put-none m at =
    record { next = omega arith; memory = rw (add-zero at) (sym (ap (◌++ drop at m) (append-nil (take at m)) ∙ take-append-drop at m)) }

pub put_one : (m : List ℕ) (at x : ℕ) → at < length m → Put m at (x ∷ []) (at + 1) (set m at x)
put_one m at x h = record { next = refl; memory = set_split m at x h ∙ rw (add-one at) (sym (append_snoc (take at m) x (drop (suc at) m))) }

overwritten-twice : (m : List ℕ) (at : ℕ) (b c : List ℕ) → at ≤ length m
    → overwritten (overwritten m at b) (at + length b) c ≡ overwritten m at (b ++ c)
overwritten-twice m at b c h =
    let whole : at + length (b ++ c) ≡ at + length b + length c = omega (arith, length-append b c) in
    let rest : drop (at + length b + length c) (overwritten m at b) ≡ drop (at + length (b ++ c)) m =
    sym (drop-drop (length c) (at + length b) (overwritten m at b))
    ∙ ap (drop (length c)) (drop-overwritten m at b h)
    ∙ drop-drop (length c) (at + length b) m
    ∙ ap (λ (k : ℕ). drop k m) (sym whole) in
    rw (take-overwritten m at b h, rest) (ap (◌++ drop (at + length (b ++ c)) m) (append_assoc (take at m) b c))

-- one run and then another are one run
pub put-put : {m m' m'' : List ℕ} {at r r' : ℕ} {b c : List ℕ} → at ≤ length m → Put m at b r m' → Put m' r c r' m'' → Put m at (b ++ c) r' m''
put-put {m} {m'} {m''} {at} {r} {r'} {b} {c} h p q =
    record {
      next = omega (arith, length-append b c, p.next, q.next);
      memory = q.memory ∙ rw (p.memory, p.next) (overwritten-twice m at b c h);
    }

-- an element after a run
pub put-more : {m m' : List ℕ} {at r : ℕ} {b : List ℕ} (x : ℕ) → r < length m → length m' ≡ length m → Put m at b r m'
    → Put m at (b ++ (x ∷ [])) (r + 1) (set m' r x)
put-more {m} {m'} {at} {r} {b} x h e p = put-put (omega (arith, p.next)) p (put_one m' r x (omega arith))

-- what is put at the front stands there
pub put_front : {m m' : List ℕ} {r : ℕ} {b : List ℕ} → Put m 0 b r m' → take r m' ≡ b
put_front {m} {m'} {r} {b} p = rw (p.next, p.memory) (take-overwritten m 0 b (omega arith))

-- and the rest is as it was
pub put-start : {m m' : List ℕ} {r : ℕ} {b : List ℕ} → Put m 0 b r m' → (r ≡ length b) × (m' ≡ b ++ drop (length b) m)
put-start {m} {m'} {r} {b} p =
    (p.next ∙ zero-add (length b), p.memory ∙ ap (λ (k : ℕ). b ++ drop k m) (zero-add (length b)))
