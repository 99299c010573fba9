-- The numbers of calls that come to no bit, by computation: 14 before 5, and 5 before the bits. Assumes nothing.
use Rattle.std.specs.Prelude.{ℕ, ◌≡◌, refl, [], ◌∷◌, map}
use Rattle.map_format.specs.Calls.{size_number, map_read, counts_number, map_written}

-- group sizes, and their numbers
pub sizes-right : map size_number (0 ∷ 1 ∷ 2 ∷ 3 ∷ 4 ∷ 5 ∷ 8 ∷ 15 ∷ 16 ∷ 17 ∷ 64 ∷ [])
    ≡ 14 ∷ 14 ∷ 14 ∷ 14 ∷ 0 ∷ 14 ∷ 14 ∷ 14 ∷ 0 ∷ 14 ∷ 14 ∷ []
unfolding size_number
sizes-right = refl

-- no bytes, and no room
pub reading-right : map (λ (g : ℕ). (map_read g [] 0 []).answer.number) (8 ∷ 4 ∷ 16 ∷ []) ≡ 14 ∷ 5 ∷ 5 ∷ []
unfolding size_number map_read
reading-right = refl

pub writing-right : map (λ (g : ℕ). (map_written g (0 ∷ 0 ∷ []) []).answer.number) (8 ∷ 4 ∷ 16 ∷ []) ≡ 14 ∷ 14 ∷ 14 ∷ []
unfolding size_number counts_number map_written
writing-right = refl
