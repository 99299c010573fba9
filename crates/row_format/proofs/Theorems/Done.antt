-- What a done reading of a row has read, and of an unpacking that is done. Assumes nothing.
use Rattle.std.specs.Prelude.{ℕ, ◌*◌, ◌<◌, ◌≡◌, refl, false, List, [], ◌∷◌, length, take, ltb}
use Rattle.std.proofs.Common.{arith, sym, ◌∙◌, take_at, ltb-false}
use Rattle.bitstream.specs.Bits.{flat, bytes_of, words_of, halves_of, stream, Below}
use Rattle.bitstream.specs.Bits.Laws.{below-nil, below-cons, below-flat, length_cut}
use Rattle.answer.specs.Outcome.{Lent, lent, room_number}
use Rattle.row_format.specs.Lists.{any}
use Rattle.row_format.specs.Lists.Laws.{any-false-head, any-false-tail}
use Rattle.row_format.specs.Table.Laws.{accepted-table}
use Rattle.row_format.specs.Row.{Item, fresh, pixels_of, pixel_bytes}
use Rattle.row_format.specs.Row.Laws.{length-pixels_of}
use Rattle.row_format.specs.Reading.{Run, done, stop, run_number, read_item, read_items, row_reading, Reads}
use Rattle.row_format.proofs.Reading.Laws.{first_number-readable, read_by-count, row_reading-cases}
use Rattle.row_format.specs.Calls.{row_wrote, unpacked, bits_used, Accepts}
use Rattle.row_format.proofs.Calls.Laws.{unpacked-number}
use Rattle.row_format.proofs.Theorems.Bounds.{bits_used-run}
use Rattle.row_format.proofs.Theorems.Items.{any-pixels_of}
use Rattle.row_format.proofs.Theorems.Words.{halves_of-bytes_of}
use Rattle.row_format.proofs.Theorems.Standing.{RunStands, read_items-stands}
use Rattle.row_format.proofs.Theorems.Numbers.{StopIn, row_reading-stops}

-- ---- a reading that is done
pub row_reading-reads : (m : Lent) (tb : List ℕ) (n : ℕ) (wb : List ℕ) (is : List Item) (u : ℕ) → row_reading m tb n wb ≡ done is u
    → Reads m tb n wb is u
row_reading-reads m tb n wb is u =
    row_reading-cases (λ x. x ≡ done is u → Reads m tb n wb is u) m tb n wb
    (λ k first e. stopped e) (λ k at v ok read e. stopped e) (λ js v ok read set e. stopped e)
    (λ js v got e. let items : js ≡ is = cc in let bits : v ≡ u = cc in rw (← items, ← bits) got)
  where
    stopped : {k at v : ℕ} → stop k at v ≡ done is u → Reads m tb n wb is u
    stopped e = absurd (let z : ◌≡◌ {A = ℕ} 0 1 = cc in omega arith)

-- n items, for which there is room
pub record Given (m : Lent) (n : ℕ) (is : List Item) : Type 0 where
  pub count : length is ≡ n
  pub room : room_number m (2 * n) ≡ 0

abbrev pub GivesRow : Lent → ℕ → Run → Type 0
GivesRow m n (done is u) = Given m n is
GivesRow m n (stop e at u) = Unit {0}

pub row_reading-gives : (m : Lent) (tb : List ℕ) (n : ℕ) (wb : List ℕ) → GivesRow m n (row_reading m tb n wb)
unfolding read_items
row_reading-gives m tb n wb = by-run (row_reading m tb n wb) refl
  where
    by-run : (x : Run) → row_reading m tb n wb ≡ x → GivesRow m n x
    by-run (done is u) e =
        let got = row_reading-reads m tb n wb is u e in
        record { count = read_by-count (read_item (words_of tb)) fresh n (stream wb) is u got.read; room = got.given.room }
    by-run (stop k at u) e = tt

-- ---- an unpacking that is done
module _ (tb wb : List ℕ) (n : ℕ) (m : List ℕ) where
  -- a refusal's number is never 0
  by-run : (x : Run) → row_reading (lent (length m)) tb n wb ≡ x → StopIn (λ e. 0 < e) x → run_number x ≡ 0 → Accepts tb wb n m
  unfolding unpacked
  by-run (done is u) e real h =
      record { items = is; used = u; reads = row_reading-reads (lent (length m)) tb n wb is u e; left = rw e }
  by-run (stop k at u) e real h = absurd (omega arith)

  pub unpacked-accepts : (unpacked tb wb n m).answer.number ≡ 0 → Accepts tb wb n m
  unpacked-accepts h =
      by-run (row_reading (lent (length m)) tb n wb) refl (row_reading-stops (lent (length m)) tb n wb)
      (sym (unpacked-number tb wb n m) ∙ h)

-- and where a row is read, its reading is done, and so is unpacking
pub reads-row_reading : (m : Lent) (tb : List ℕ) (n : ℕ) (wb : List ℕ) (is : List Item) (u : ℕ) → Reads m tb n wb is u
    → row_reading m tb n wb ≡ done is u
unfolding row_reading
reads-row_reading m tb n wb is u got = rw (first_number-readable m tb n got.given, got.read, got.clean)

pub unpacked-reads : (tb wb : List ℕ) (n : ℕ) (m : List ℕ) (is : List Item) (u : ℕ) → Reads (lent (length m)) tb n wb is u
    → unpacked tb wb n m ≡ row_wrote u (pixel_bytes (pixels_of fresh is)) m
unfolding unpacked
unpacked-reads tb wb n m is u got = rw (reads-row_reading (lent (length m)) tb n wb is u got)

-- its items stand in the words, and fit; its count is the bits of them, and the bits that it used; and its pixels are those
-- that they stand for
any-false-below : (ps : List ℕ) → any (ltb 4095) ps ≡ false → Below 65536 ps
any-false-below [] e = below-nil (omega arith)
any-false-below (p ∷ ps) e =
    let most = ltb-false 4095 p (any-false-head (ltb 4095) p ps e) in
    below-cons (omega arith) (any-false-below ps (any-false-tail (ltb 4095) p ps e))

module _ (tb wb : List ℕ) (n : ℕ) (m : List ℕ) (got : Accepts tb wb n m) where
  pub unpacked-stands : RunStands (words_of tb) fresh n (stream wb) got.items (unpacked tb wb n m).answer.count
  unpacked-stands =
      let ok = accepted-table tb got.reads.given.table in
      rw got.left
      (read_items-stands (words_of tb) ok n (stream wb) got.items got.used (below-flat 8 _) got.reads.read)

  pub bits_used-count : bits_used tb wb n m ≡ (unpacked tb wb n m).answer.count
  bits_used-count =
      let first = first_number-readable (lent (length m)) tb n got.reads.given in
      rw got.left (bits_used-run tb wb n m first ∙ rw got.reads.read)

  pub pixels-left : halves_of (take (2 * n) (unpacked tb wb n m).memory) ≡ pixels_of fresh got.items
  pixels-left =
      let ps = pixels_of fresh got.items in
      let size : length (pixels_of fresh got.items) ≡ n = length-pixels_of fresh got.items ∙ unpacked-stands.count in
      let low = any-false-below ps (any-pixels_of (words_of tb) fresh got.items unpacked-stands.fits) in
      rw (got.left, size, take_at (bytes_of (2 * n) (flat 16 ps)) _ (2 * n) (length_cut 8 (2 * n) (flat 16 ps)))
      (halves_of-bytes_of n ps size low)
