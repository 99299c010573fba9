-- What a turn of write does, and its way out. Assumes nothing.
use Prim.Native.Nat.{ℕ, ◌+◌, ◌-◌, ◌*◌, ◌≤◌, ◌<◌}
use native.Mathlib.Omega.{arith}
use mathlib.Core.Path.{◌≡◌, refl, sym, ap, ◌∙◌}
use mathlib.Core.List.{List, [], ◌++◌, append_assoc, append-nil}
use lib.ListN.{length, take, drop, get_or, take-append-drop}
use lib.Seq.{drop-drop, length-take-le}
use Rattle.bitstream.specs.Bits.{digits, flat, bytes_of, words_for, Below, pad}
use Rattle.bitstream.specs.Bits.Laws.{below-cut, below-take, length_cut, flat-cut}
use Rattle.bitstream.specs.Writer.{held_bits, Ready, Closable, FieldPut, Finished, Good}
use Rattle.bitstream.specs.declared.writer.Writer.{Writer}
use Rattle.row_format.specs.BitLaws.{bits_of-inj}
use Rattle.row_format.specs.Row.{fresh, row_bits}
use Rattle.row_format.proofs.Theorems.Words.{below-row_bits}
use Rattle.row_item.specs.declared.Progress.{Progress}
use Rattle.row_item.specs.Coded.{progress}
use Rattle.row_packer.specs.Encode.{Encodes, Sound}
use Rattle.row_packer.proofs.encode.Laws.{sound-progress}
use Rattle.row_packer.proofs.Remaining.{remaining-none, remaining-more, remaining-all, length-remaining-more, remaining}
use Rattle.row_packer.specs.Write.{Written}
use Rattle.row_packer.specs.declared.encode.Encoded.{Encoded}

-- after i pixels: m was the memory, o it is now
pub record Writing (t ps m o : List ℕ) (w : Writer) (p : Progress) (i : ℕ) : Type 0 where
  pub within : i ≤ length ps
  pub sound : Sound p
  pub whole : held_bits o w ++ remaining t ps p i ≡ row_bits t ps
  pub good : Good w
  pub sum : 32 * w.words + (w.count + length (remaining t ps p i)) ≡ length (row_bits t ps)
  pub size : length o ≡ length m
  pub rest : drop (4 * w.words) o ≡ drop (4 * w.words) m

-- what is alike from a place on is alike from a later place on
drop-later : (a b : ℕ) (o m : List ℕ) → a ≤ b → drop a o ≡ drop a m → drop b o ≡ drop b m
drop-later a b o m h e =
    let place : a + (b - a) ≡ b = omega arith in
    ap (λ (k : ℕ). drop k o) (sym place) ∙ sym (drop-drop (b - a) a o) ∙ ap (drop (b - a)) e ∙ drop-drop (b - a) a m
    ∙ ap (λ (k : ℕ). drop k m) place

pub writing-none : (t ps m : List ℕ) {w : Writer} {p : Progress} → w ≡ record { words = 0; count = 0; acc = 0 } → p ≡ progress fresh
    → Writing t ps m m w p 0
unfolding flat digits
writing-none t ps m e q =
    rw e
    (record {
      within = omega arith;
      sound = sound-progress fresh q (omega arith);
      whole = remaining-none t ps q;
      good = record { few = omega arith; low = omega arith };
      sum = omega (arith, ap length (remaining-none t ps q));
      size = refl;
      rest = refl;
    })

module _
    {t ps m o : List ℕ} {w : Writer} {p : Progress} {i : ℕ} (s : Writing t ps m o w p i)
    (room : 4 * words_for (length (row_bits t ps)) ≤ length m) where
  -- the next pixel
  module _ (h : i < length ps) {pixel : ℕ} (e : pixel ≡ get_or ps i 0) {r : Encoded} (en : Encodes t p pixel r) where
    pub writing-ready : {n : ℕ} → n ≤ r.field.len → Ready o w n
    writing-ready few =
        record {
          good = s.good;
          most = omega (arith, en.bits.most);
          fits = omega (arith, s.sum, s.size, length-remaining-more t ps i h e en);
        }

    pub writing_more : {o' : List ℕ} {w' : Writer} → FieldPut o w r.field.bits r.field.len o' w' → length o' ≡ length o
        → Writing t ps m o' w' r.next (i + 1)
    writing_more {o'} {w'} put same =
        let bits = digits r.field.len r.field.bits in
        let left = remaining t ps r.next (i + 1) in
        let later : 4 * w.words ≤ 4 * w'.words = omega (arith, put.size, put.good.few) in
        record {
          within = omega arith;
          sound = en.sound;
          whole =
              ap (◌++ left) put.bits
              ∙ append_assoc (held_bits o w) bits left
              ∙ ap (held_bits o w ++◌) (sym (remaining-more t ps i h e en))
              ∙ s.whole;
          good = put.good;
          sum = omega (arith, put.size, s.sum, length-remaining-more t ps i h e en);
          size = same ∙ s.size;
          rest = put.rest ∙ drop-later (4 * w.words) (4 * w'.words) o m later s.rest;
        }

  -- every pixel is put
  module _ (g : length ps ≤ i) where
    end : remaining t ps p i ≡ []
    end = remaining-all t ps p i s.within g

    pub written-bits : 32 * w.words + w.count ≡ length (row_bits t ps)
    written-bits = omega (arith, s.sum, ap length end)

    held_all : held_bits o w ≡ row_bits t ps
    held_all = sym (append-nil (held_bits o w)) ∙ ap (held_bits o w ++◌) (sym end) ∙ s.whole

    pub written-closable : Closable o w
    written-closable = record { good = s.good; fits = rw written-bits (omega (arith, s.size)) }

    -- the words hold the row's bits and zeros, and what follows them is as it was
    pub written_all : {o' : List ℕ} {n : ℕ} → Finished o w o' n → length o' ≡ length o → Below 256 o'
        → Written t ps m o' (32 * w.words + w.count)
    written_all {o'} {n} f same bytes =
        let b = row_bits t ps in
        let whole : n ≡ words_for (length b) = f.count ∙ ap words_for written-bits in
        let place : 8 * (4 * n) ≡ 32 * n = omega arith in
        let enough : 4 * n ≤ length o' = omega (arith, s.size) in
        let later : 4 * w.words ≤ 4 * n = omega (arith, written-bits) in
        let front : take (4 * n) o' ≡ bytes_of (4 * n) b =
        bits_of-inj (4 * n) (take (4 * n) o') (bytes_of (4 * n) b)
        (below-take (4 * n) o' bytes)
        (below-cut 8 (4 * n) b (below-row_bits t ps))
        (length-take-le (4 * n) o' enough)
        (length_cut 8 (4 * n) b)
        (f.front
        ∙ ap (pad (32 * n)) held_all
        ∙ ap (λ (k : ℕ). pad k b) (sym place)
        ∙ sym (flat-cut 8 (4 * n) b (below-row_bits t ps))) in
        let back : drop (4 * n) o' ≡ drop (4 * n) m = f.rest ∙ drop-later (4 * w.words) (4 * n) o m later s.rest in
        record {
          memory = sym (take-append-drop (4 * n) o') ∙ rw (front, back, whole, length_cut 8 (4 * words_for (length b)) b);
          bits = written-bits;
        }
