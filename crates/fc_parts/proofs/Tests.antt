-- Part numbers, tested and counted down.
use Rattle.std.proofs.Common.{◌≡◌, ℕ, suc, ◌-◌, false, nat_eq, nat_lt, arith}
use Rattle.std.proofs.lemmas.Bool.Decides.{nat_tests}

pub not_zero : (i : ℕ) → nat_eq (suc i) 0 ≡ false
not_zero i = grind (arith, nat_tests)

pub not_one : (i : ℕ) → nat_eq (suc (suc i)) 1 ≡ false
not_one i = grind (arith, nat_tests)

pub not_below_three : (i : ℕ) → nat_lt (suc (suc (suc i))) 3 ≡ false
not_below_three i = grind (arith, nat_tests)

pub less_three : (i : ℕ) → suc (suc (suc i)) - 3 ≡ i
less_three i = omega arith

pub less_one : (i : ℕ) → suc i - 1 ≡ i
less_one i = omega arith
