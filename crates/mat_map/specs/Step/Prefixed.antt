-- Laws of reading one thing after another. Assumes nothing.
use Rattle.std.specs.Prelude.{ℕ, suc, ◌≡◌, refl, List, [], ◌∷◌, ◌++◌}
use Rattle.std.proofs.Common.{sym, ap, append_assoc}
use Rattle.map_format.specs.Reading.{Parse, stops, got, read_pixel, read_pixels, read_group, read_groups}
use Rattle.mat_map.specs.Step.{prefixed}

pub prefixed-none : (p : Parse (List ℕ)) → p ≡ prefixed [] p
prefixed-none (stops e) = refl
prefixed-none (got xs b) = refl

pub prefixed-twice : (a c : List ℕ) (p : Parse (List ℕ)) → prefixed a (prefixed c p) ≡ prefixed (a ++ c) p
prefixed-twice a c (stops e) = refl
prefixed-twice a c (got xs b) = ap (λ (l : List ℕ). got l b) (sym (append_assoc a c xs))

-- ---- one pixel or group more
module _ (n : ℕ) (b : List ℕ) where
  pub read_pixels-more : (x : ℕ) (r : List ℕ) → read_pixel b ≡ got x r → read_pixels (suc n) b ≡ prefixed (x ∷ []) (read_pixels n r)
  unfolding read_pixels
  read_pixels-more x r e = rw e

  pub read_pixels-stop : (e : ℕ) → read_pixel b ≡ stops e → read_pixels (suc n) b ≡ stops e
  unfolding read_pixels
  read_pixels-stop e h = rw h

module _ (k n : ℕ) (b : List ℕ) where
  pub read_groups-more : (xs r : List ℕ) → read_group k b ≡ got xs r → read_groups k (suc n) b ≡ prefixed xs (read_groups k n r)
  unfolding read_groups
  read_groups-more xs r e = rw e

  pub read_groups-stop : (e : ℕ) → read_group k b ≡ stops e → read_groups k (suc n) b ≡ stops e
  unfolding read_groups
  read_groups-stop e h = rw h
