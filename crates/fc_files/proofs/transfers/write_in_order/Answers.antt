-- A write after the front that is written makes a longer front.
use Rattle.std.proofs.Common.{◌+◌, ◌-◌, ℕ, List, Option, length, take, drop, subst, sym, arith}
use Rattle.std.proofs.KnownBytes.{Appends-trans}
use Rattle.std.proofs.Math.Seq.{take-add}
use Rattle.std.proofs.lemmas.List.{take_rest}
use Rattle.std.specs.Io.KnownBytes.{Appends}
use Rattle.fc_files.proofs.transfers.write_in_order.Goals as goal

more : (a b c : Option (List ℕ)) (xs : List ℕ) (i n : ℕ) → Appends a b (take i xs) → Appends b c (take n (take (length xs - i) (drop i xs))) → Appends a c (take (i + n) xs)
more a b c xs i n front next =
    let rest : Appends b c (take n (drop i xs)) = subst (λ (l : List ℕ). Appends b c (take n l)) (take_rest xs i) next in
    subst (Appends a c) (sym (take-add i n xs)) (Appends-trans a b c (take i xs) (take n (drop i xs)) front rest)

pub loop-written-preserved : goal.loop-written-preserved
loop-written-preserved g c = record {
  within = omega (arith, c.in_ok-count.ensures.within);
  front = more _ _ _ _ _ _ c.loop-written.invariant.front c.in_ok-count.ensures.bytes;
}
