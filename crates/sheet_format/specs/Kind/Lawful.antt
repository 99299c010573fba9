-- What every kind of record owes, so that all that is proved of records is proved once, over a lawful kind. Assumes nothing.
use Rattle.std.specs.Prelude.{ℕ, ◌*◌, ◌≤◌, ◌<◌, ◌≡◌, List, length}
use Rattle.bitstream.specs.Bits.{Below}
use Rattle.answer.specs.Outcome.{◌or_else◌, Lent, nothing, room_number}
use Rattle.sheet_format.specs.Context.{Heading, Context}
use Rattle.sheet_format.specs.Kind.{Kind, a_table, a_row, after_record, heading_kept, content_given}

-- the numbers that document 01 lists for a record's kind and body, for its place, and for what the writer is given
pub record ListedBody (P : ℕ → Type 0) : Type 0 where
  pub p0 : P 0
  pub p1 : P 1
  pub p2 : P 2
  pub p3 : P 3
  pub p4 : P 4
  pub p11 : P 11
  pub p12 : P 12
  pub p13 : P 13
  pub p14 : P 14
  pub p15 : P 15

-- and for a body of bits
pub record ListedBits (P : ℕ → Type 0) : Type 0 where
  pub p6 : P 6
  pub p7 : P 7
  pub p8 : P 8
  pub p9 : P 9
  pub p10 : P 10

-- what holds of such numbers, and whatever follows from it
pub listed_in : {P Q : ℕ → Type 0} → ((e : ℕ) → P e → Q e) → ListedBody P → ListedBody Q
listed_in f l = record {
  p0 = f 0 l.p0;
  p1 = f 1 l.p1;
  p2 = f 2 l.p2;
  p3 = f 3 l.p3;
  p4 = f 4 l.p4;
  p11 = f 11 l.p11;
  p12 = f 12 l.p12;
  p13 = f 13 l.p13;
  p14 = f 14 l.p14;
  p15 = f 15 l.p15;
}

pub bits_in : {P Q : ℕ → Type 0} → ((e : ℕ) → P e → Q e) → ListedBits P → ListedBits Q
bits_in f l =
    record { p6 = f 6 l.p6; p7 = f 7 l.p7; p8 = f 8 l.p8; p9 = f 9 l.p9; p10 = f 10 l.p10 }

pub record ListedPlace (P : ℕ → Type 0) : Type 0 where
  pub p0 : P 0
  pub p16 : P 16

pub record ListedGiven (P : ℕ → Type 0) : Type 0 where
  pub p0 : P 0
  pub p1 : P 1
  pub p2 : P 2
  pub p3 : P 3
  pub p4 : P 4
  pub p11 : P 11
  pub p15 : P 15

-- what reading the body b finds, where it was written for the heading h and the content x
pub record Back (k : Kind) (h : Heading) (c : Context) (x b : List ℕ) : Type 0 where
  pub fixed : k.fixed b ≡ 0
  pub heading : k.heading b ≡ heading_kept k.holds h
  pub place : k.place c (k.heading b) ≡ k.place c h
  pub own : (m : Lent) → room_number m (k.each * k.given_count x) ≡ 0 → k.own m c b ≡ 0
  pub count : k.count b ≡ k.given_count x
  pub bits : k.bits c b ≡ k.given_bits h c x
  pub content : k.content c b ≡ content_given k x
  pub after : after_record k.holds (k.heading b) b c ≡ after_record k.holds h x c
  pub short : length b ≤ 32772

-- two headings that writing does not tell apart
pub record SameWriting (k : Kind) (h g : Heading) (c : Context) (x : List ℕ) : Type 0 where
  pub place : k.place c h ≡ k.place c g
  pub given : k.given h c x ≡ k.given g c x
  pub body : k.body h c x ≡ k.body g c x

pub record Lawful (k : Kind) : Type 1 where
  -- ---- the body's own refusals ask for room once, and before that bound the content
  pub first : Context → List ℕ → ℕ
  pub last : Context → List ℕ → ℕ
  pub own-parts : (m : Lent) (c : Context) (b : List ℕ)
      → k.own m c b ≡ first c b or_else (room_number m (k.each * k.count b) or_else last c b)
  pub most : (c : Context) (b : List ℕ) → first c b ≡ 0 → k.each * k.count b ≤ 16384
  pub size : (c : Context) (b : List ℕ) → k.own nothing c b ≡ 0 → length (k.content c b) ≡ k.each * k.count b
  pub given-size : (x : List ℕ) → k.each * k.given_count x ≤ length x
  -- ---- places
  pub table-placed : k.holds ≡ a_table → (c : Context) (h : Heading) → k.place c h ≡ 0 → length c.tables ≡ 0
  pub table_before : (k.holds ≡ a_table → ⊥) → k.readable ≡ 0 → (c : Context) (h : Heading) → k.place c h ≡ 0
      → length c.tables ≡ 0 → ⊥
  pub row-risen : k.holds ≡ a_row → (c : Context) (h : Heading) → k.place c h ≡ 0 → c.least ≤ h.row
  pub row_small : k.holds ≡ a_row → (c : Context) (h : Heading) → k.place c h ≡ 0 → h.row < 65536
  pub rowless : (k.holds ≡ a_row → ⊥) → (h g : Heading) (c : Context) (x : List ℕ) → SameWriting k h g c x
  -- ---- numbers: what document 01 lists, and nothing else
  pub readable-in : (P : ℕ → Type 0) → ListedBody P → P k.readable
  pub writable-in : (P : ℕ → Type 0) → ListedGiven P → P k.writable
  pub fixed_in : (P : ℕ → Type 0) → ListedBody P → (b : List ℕ) → P (k.fixed b)
  pub place_in : (P : ℕ → Type 0) → ListedPlace P → (c : Context) (h : Heading) → P (k.place c h)
  pub own_in : (P : ℕ → Type 0) → ListedBody P → ListedBits P → (m : Lent) → ((n : ℕ) → P (room_number m n))
      → (c : Context) (b : List ℕ) → P (k.own m c b)
  pub given-in : (P : ℕ → Type 0) → ListedGiven P → (h : Heading) (c : Context) (x : List ℕ) → P (k.given h c x)
  -- ---- what is written is read back
  pub readable-back : k.writable ≡ 0 → k.readable ≡ 0
  pub back : (h : Heading) (c : Context) (x : List ℕ) → Below 256 x → k.writable ≡ 0 → k.place c h ≡ 0
      → k.given h c x ≡ 0 → Back k h c x (k.body h c x)
