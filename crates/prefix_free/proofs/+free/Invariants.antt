-- The measure of `free` is what is left of 32 bits: a codeword has at most 31, and no call is made where one has ended.
use Rattle.std.proofs.Common.{◌-◌}
use Rattle.prefix_free.proofs.+free.Given as goal

abbrev pub decreases-free : goal.decreases-free
decreases-free l = 32 - l.d
