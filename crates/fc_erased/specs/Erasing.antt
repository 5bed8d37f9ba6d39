-- What is put into an expression, and what is put into its erasure.
use Rattle.std.specs.Prelude.{◌≡◌, ℕ}
use Rattle.fc_model.specs.Erasure.{Scope, erased, sort_of}
use Rattle.fc_model.specs.Replacing.{Replacement, Standing}
use Rattle.fc_model.specs.Terms.{Term, Var}
use Rattle.fc_meaning.proofs.SortsOfTypes.{AreLifted}

-- The replacement r takes expressions of the scope d to those of the scope c, and p, on terms, does what r does when types are gone: each
-- variable and each join point becomes what it should, sorts stay, and types that are put in are lifted. What is put in is good.
pub record Erases {V W : Type 0} (how : Standing V) (Good : V → Type 0) (c d : Scope) (r : Replacement V W) (p : ℕ → Term) : Type 0 where
  pub good : (i : ℕ) → Good (r.values i)
  pub values : (i : ℕ) → erased c (how.expression (r.values i)) ≡ p (d.values i)
  pub sorts : (i : ℕ) → sort_of c (how.expression (r.values i)) ≡ d.sorts i
  pub joins : (i : ℕ) → p (d.joins i) ≡ Var (c.joins (r.joins i))
  pub types : AreLifted r.types
