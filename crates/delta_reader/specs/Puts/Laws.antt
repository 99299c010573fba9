-- The laws of elements in memory. Assumes nothing.
use Rattle.std.specs.Prelude.{ℕ, ◌+◌, ◌*◌, ◌%◌, ◌≤◌, ◌<◌, ◌≡◌, refl, List, [], ◌∷◌, ◌++◌, map, length, take, drop, set, get_or, replicate, ℤ, pos}
use Rattle.std.proofs.Common.{mod-eq_of_lt, add-one, arith, sym, ap, ◌∙◌, subst, append_assoc, append-nil, length-append, take-append-drop, drop-drop, take-suc, get_or-drop, length-take-le}
use Rattle.std.proofs.lemmas.List.{map-append, length-map, length-replicate, replicate-append-replicate, set_split}
use Rattle.std.proofs.Math.Seq.{append_snoc}
use Rattle.bitstream.specs.Bits.{digits, bytes_of}
use Rattle.bitstream.specs.Memory.{overwritten}
use Rattle.bitstream.specs.Memory.Laws.{take-overwritten, drop-overwritten, length-overwritten}
use Rattle.delta_format.specs.Row.{Element, good}
use Rattle.delta_format.specs.Calls.{value_of, mark_of, element_bytes, values_bytes}
use Rattle.delta_format.specs.Calls.Laws.{length-row, row-append}
use Rattle.delta_format.specs.Numbers.{bits_for}
use Rattle.delta_reader.specs.Offset.{Width, eight, sixteen, thirty_two, Offset}
use Rattle.delta_reader.specs.Offset.Laws.{bits_are}
use Rattle.delta_reader.specs.Puts.{StandsFor, RoomFor, PutsElements, PutsAlike, AsLong, PuttingAlike, PuttingValues}

-- ---- what is written after what was written
overwritten-more : (m : List ℕ) (at : ℕ) (b c : List ℕ) → at + length b + length c ≤ length m
    → overwritten (overwritten m at b) (at + length b) c ≡ overwritten m at (b ++ c)
overwritten-more m at b c h =
    let more : at + length b + length c ≡ at + length (b ++ c) = omega (arith, length-append b c) in
    let rest : drop (at + length b + length c) (overwritten m at b) ≡ drop (at + length (b ++ c)) m =
    sym (drop-drop (length c) (at + length b) (overwritten m at b))
    ∙ ap (drop (length c)) (drop-overwritten m at b (omega arith))
    ∙ drop-drop (length c) (at + length b) m
    ∙ ap (λ (n : ℕ). drop n m) more in
    ap (λ (l : List ℕ). l ++ c ++ drop (at + length b + length c) (overwritten m at b)) (take-overwritten m at b (omega arith))
    ∙ ap (λ (l : List ℕ). take at m ++ b ++ c ++ l) rest
    ∙ ap (λ (l : List ℕ). l ++ drop (at + length (b ++ c)) m) (append_assoc (take at m) b c)

overwritten-none : (m : List ℕ) (at : ℕ) → m ≡ overwritten m at []
overwritten-none m at =
    let e : at ≡ at + 0 = omega arith in
    sym (take-append-drop at m)
    ∙ ap (λ (n : ℕ). take at m ++ drop n m) e
    ∙ ap (λ (l : List ℕ). l ++ drop (at + 0) m) (sym (append-nil (take at m)))

pub puts_none : (x y : List ℕ) (at : ℕ) → PutsElements x y at [] x y
puts_none x y at = record { row = overwritten-none x (4 * at); marks = overwritten-none y at }

module _ {x y : List ℕ} {at n : ℕ} {es fs : List Element} {x' y' x'' y'' : List ℕ} where
  pub puts-more : RoomFor x y at n → length es + length fs ≤ n → PutsElements x y at es x' y'
      → PutsElements x' y' (at + length es) fs x'' y'' → PutsElements x y at (es ++ fs) x'' y''
  puts-more room few p q =
      let place : 4 * (at + length es) ≡ 4 * at + length (values_bytes es) = omega (arith, length-row es) in
      let mark : at + length es ≡ at + length (map mark_of es) = omega (arith, length-map es mark_of) in
      record {
        row =
            q.row
            ∙ ap (λ (m : List ℕ). overwritten m (4 * (at + length es)) (values_bytes fs)) p.row
            ∙ ap (λ (k : ℕ). overwritten (overwritten x (4 * at) (values_bytes es)) k (values_bytes fs)) place
            ∙ overwritten-more x (4 * at) (values_bytes es) (values_bytes fs) (omega (arith, length-row es, length-row fs, room.row))
            ∙ ap (overwritten x (4 * at)) (sym (row-append es fs));
        marks =
            q.marks
            ∙ ap (λ (m : List ℕ). overwritten m (at + length es) (map mark_of fs)) p.marks
            ∙ ap (λ (k : ℕ). overwritten (overwritten y at (map mark_of es)) k (map mark_of fs)) mark
            ∙ overwritten-more y at (map mark_of es) (map mark_of fs)
            (omega (arith, length-map es mark_of, length-map fs mark_of, room.marks))
            ∙ ap (overwritten y at) (sym (map-append mark_of es fs));
      }

pub puts-long : {x y : List ℕ} {at n : ℕ} {es : List Element} {x' y' : List ℕ} → RoomFor x y at n → length es ≤ n
    → PutsElements x y at es x' y' → AsLong x y x' y'
puts-long {x} {y} {at} {n} {es} room few p = record {
  row = ap length p.row ∙ length-overwritten x (4 * at) (values_bytes es) (omega (arith, length-row es, room.row));
  marks = ap length p.marks ∙ length-overwritten y at (map mark_of es) (omega (arith, length-map es mark_of, room.marks));
}

-- ---- one element
pub puts_one : (x y : List ℕ) (at v mark : ℕ) {x' : List ℕ} → at < length y
    → x' ≡ overwritten x (4 * at) (bytes_of 4 (digits 32 ((v % 4294967296 + 2147483648) % 4294967296)))
    → PutsAlike v mark x y at 1 x' (set y at mark)
puts_one x y at v mark {x'} h e = record { puts = one }
  where
    one : (a : Element) → StandsFor v mark a → PutsElements x y at (a ∷ []) x' (set y at mark)
    one a k =
        let small : v % 4294967296 ≡ v = mod-eq_of_lt k.small in
        let bits : (v % 4294967296 + 2147483648) % 4294967296 ≡ bits_for 32 (value_of a) =
        ap (λ (n : ℕ). (n + 2147483648) % 4294967296) small ∙ sym (ap (bits_for 32) k.keeps ∙ bits_are v k.small) in
        record {
          row =
              e
              ∙ ap (λ (n : ℕ). overwritten x (4 * at) (bytes_of 4 (digits 32 n))) bits
              ∙ ap (overwritten x (4 * at)) (sym (append-nil (element_bytes a)));
          marks =
              set_split y at mark h
              ∙ ap (λ (n : ℕ). take at y ++ mark ∷ drop n y) (sym (add-one at))
              ∙ sym (append_snoc (take at y) mark (drop (at + 1) y))
              ∙ ap (λ (m : ℕ). overwritten y at (m ∷ [])) (sym k.marked);
        }

-- ---- a run of one element
module _ (v mark : ℕ) (x y : List ℕ) (at : ℕ) where
  pub alike-none : PutsAlike v mark x y at 0 x y
  alike-none = record { puts = λ e k. puts_none x y at }

  pub alike-more : {n : ℕ} (i : ℕ) {x' y' x'' y'' : List ℕ} → RoomFor x y at n → i < n → PutsAlike v mark x y at i x' y'
      → PutsAlike v mark x' y' (at + i) 1 x'' y'' → PutsAlike v mark x y at (i + 1) x'' y''
  alike-more {n} i {x'} {y'} {x''} {y''} room h p q = record { puts = more }
    where
      more : (e : Element) → StandsFor v mark e → PutsElements x y at (replicate (i + 1) e) x'' y''
      more e k =
          let long : length (replicate i e) ≡ i = length-replicate i e in
          let next : PutsElements x' y' (at + length (replicate i e)) (e ∷ []) x'' y'' =
          subst (λ (m : ℕ). PutsElements x' y' (at + m) (e ∷ []) x'' y'') (sym long) (q.puts e k) in
          subst (λ (es : List Element). PutsElements x y at es x'' y'') (replicate-append-replicate i 1 e)
          (puts-more room (omega (arith, long)) (p.puts e k) next)

-- ---- values, one after the other
pub holds-good : {w : ℕ} {v : ℤ} {r : ℕ} → Width w → Offset w v r → StandsFor r 0 (good v)
holds-good eight o = record { keeps = o.keeps; marked = refl; small = omega (arith, o.high) }
holds-good sixteen o = record { keeps = o.keeps; marked = refl; small = omega (arith, o.high) }
holds-good thirty_two o = record { keeps = o.keeps; marked = refl; small = omega (arith, o.high) }

module _ (x y : List ℕ) (at : ℕ) (vs : List ℤ) where
  pub values-more : {n : ℕ} (i : ℕ) {x' y' x'' y'' : List ℕ} {w r : ℕ} → RoomFor x y at n → i < n → n ≤ length vs
      → PutsElements x y at (map good (take i vs)) x' y'
      → Width w → Offset w (get_or vs i (pos 0)) r → PutsAlike r 0 x' y' (at + i) 1 x'' y''
      → PutsElements x y at (map good (take (i + 1) vs)) x'' y''
  values-more {n} i {x'} {y'} {x''} {y''} {w} {r} room h some p width o q =
      let long : length (map good (take i vs)) ≡ i =
      length-map (take i vs) good ∙ length-take-le i vs (omega arith) in
      let v : ℤ = get_or vs i (pos 0) in
      let next : PutsElements x' y' (at + length (map good (take i vs))) (good v ∷ []) x'' y'' =
      subst (λ (m : ℕ). PutsElements x' y' (at + m) (good v ∷ []) x'' y'') (sym long) (q.puts (good v) (holds-good width o)) in
      let same : map good (take i vs) ++ (good v ∷ []) ≡ map good (take (i + 1) vs) =
      sym (ap (λ (m : ℕ). map good (take m vs)) (add-one i)
      ∙ ap (map good) (take-suc vs i (pos 0) (omega arith)) ∙ map-append good (take i vs) (v ∷ [])) in
      subst (λ (es : List Element). PutsElements x y at es x'' y'') same (puts-more room (omega (arith, long)) p next)

-- ---- the loops' turns
pub as_long : {x y : List ℕ} → AsLong x y x y
as_long = record { row = refl; marks = refl }

pub as-long-more : {x y x' y' x'' y'' : List ℕ} → AsLong x y x' y' → AsLong x' y' x'' y'' → AsLong x y x'' y''
as-long-more a b = record { row = b.row ∙ a.row; marks = b.marks ∙ a.marks }

module _ {v mark : ℕ} {x y : List ℕ} {at n : ℕ} (room : RoomFor x y at n) where
  pub alike-again : {i : ℕ} {x' y' x'' y'' : List ℕ} → PuttingAlike v mark x y at n i x' y' → i < n
      → PutsAlike v mark x' y' (at + i) 1 x'' y'' → AsLong x' y' x'' y'' → PuttingAlike v mark x y at n (i + 1) x'' y''
  alike-again {i} p h q l = record {
    most = omega arith;
    long = as-long-more p.long l;
    alike = alike-more v mark x y at i room h p.alike q;
  }

  pub alike_all : {i : ℕ} {x' y' : List ℕ} → PuttingAlike v mark x y at n i x' y' → n ≤ i → PutsAlike v mark x y at n x' y'
  alike_all {i} {x'} {y'} p h =
      let e : i ≡ n = omega (arith, p.most) in
      subst (λ (k : ℕ). PutsAlike v mark x y at k x' y') e p.alike

module _ {x y : List ℕ} {at n : ℕ} (vs : List ℤ) (room : RoomFor x y at n) where
  pub values-again : {i : ℕ} {x' y' x'' y'' : List ℕ} {w r : ℕ} → PuttingValues x y at vs n i x' y' → i < n → n ≤ length vs
      → Width w → Offset w (get_or vs i (pos 0)) r → PutsAlike r 0 x' y' (at + i) 1 x'' y'' → AsLong x' y' x'' y''
      → PuttingValues x y at vs n (i + 1) x'' y''
  values-again {i} p h some width o q l = record {
    most = omega arith;
    long = as-long-more p.long l;
    puts = values-more x y at vs i room h some p.puts width o q;
  }

  pub values-all : {i : ℕ} {x' y' : List ℕ} → PuttingValues x y at vs n i x' y' → n ≤ i → PutsElements x y at (map good (take n vs)) x' y'
  values-all {i} {x'} {y'} p h =
      let e : i ≡ n = omega (arith, p.most) in
      subst (λ (k : ℕ). PutsElements x y at (map good (take k vs)) x' y') e p.puts

-- a value among those from a place on
pub of-drop : {w r : ℕ} (all : List ℤ) (at i : ℕ) → Offset w (get_or all (at + i) (pos 0)) r → Offset w (get_or (drop at all) i (pos 0)) r
of-drop {w} {r} all at i o = subst (λ (v : ℤ). Offset w v r) (sym (get_or-drop at all i (pos 0))) o
