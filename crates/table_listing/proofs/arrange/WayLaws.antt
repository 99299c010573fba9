-- Two ways are one where their numbers are. Assumes nothing.
use Rattle.std.specs.Prelude.{◌≡◌, refl, true, false}
use Rattle.std.proofs.Common.{arith}
use Rattle.std.proofs.lemmas.Bool.{false≢true, true≢false}
use denote.Enum.Bare.{sameb}
use Rattle.table_listing.specs.contracts.string.Way.{the_type}
use Rattle.table_listing.specs.declared.string.Way.{Way}
use Rattle.table_listing.specs.declared.string.Way.TheVariants.{Ends, Zero, One}
use Rattle.table_listing.specs.Way.{way_number}

pub same-way : (x y : Way) → true ≡ sameb the_type x y → way_number x ≡ way_number y
same-way Ends Ends e = refl
same-way Zero Zero e = refl
same-way One One e = refl
same-way Ends Zero e = absurd (true≢false e)
same-way Ends One e = absurd (true≢false e)
same-way Zero Ends e = absurd (true≢false e)
same-way Zero One e = absurd (true≢false e)
same-way One Ends e = absurd (true≢false e)
same-way One Zero e = absurd (true≢false e)

pub other-way : (x y : Way) → false ≡ sameb the_type x y → way_number x ≡ way_number y → ⊥
other-way Ends Ends e = λ n. false≢true e
other-way Zero Zero e = λ n. false≢true e
other-way One One e = λ n. false≢true e
other-way Ends Zero e = λ n. omega (arith, n)
other-way Ends One e = λ n. omega (arith, n)
other-way Zero Ends e = λ n. omega (arith, n)
other-way Zero One e = λ n. omega (arith, n)
other-way One Ends e = λ n. omega (arith, n)
other-way One Zero e = λ n. omega (arith, n)
