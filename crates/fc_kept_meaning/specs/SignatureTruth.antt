-- What a signature of a function promises of its calls in a program.
use Rattle.std.specs.Prelude.{◌≡◌, ◌≤◌, ◌⊎◌, ℕ, zero, suc, Bool, true, List, [], length, Some}
use Rattle.fc_syntax.specs.Demands.{Demand, Bottom, Absent, Product, Strict, Lazy, Demands, NoDemands, MoreDemands, Sig, SigOf}
use Rattle.fc_syntax.specs.declared.ty.Name.{Name}
use Rattle.fc_model.specs.Calling.{Constructor, constructor, constructor_binders}
use Rattle.fc_model.specs.Erasure.{binder_sorts, lambdas}
use Rattle.fc_model.specs.Kinding.{Modules}
use Rattle.fc_model.specs.Observing.{Observation, Sees}
use Rattle.fc_model.specs.Stepping.{Program, Reaches}
use Rattle.fc_model.specs.Terms.{Sort, Term, Global, Con, Terms, Nil, Cons, HasSorts, AreSorted}
use Rattle.fc_term_rows.specs.TermRows.{applied_term}

abbrev mutual
  -- within k steps; the fields of a constructor have the number and the sorts that its declaration among ms gives
  pub MeetsDemand : Modules → Program → ℕ → Demand → Term → Type 0
  MeetsDemand ms P k Bottom a = ⊥
  MeetsDemand ms P k Absent a = Unit {0}
  MeetsDemand ms P k (Product c ds) a =
      (j : ℕ) × (j ≤ k) × (d : Constructor) × (constructor ms c ≡ Some d) × (ts : Terms) × Reaches P a j (Con c (binder_sorts (constructor_binders d)) ts) × MeetDemands ms P k ds ts
  MeetsDemand ms P k Strict a = (j : ℕ) × (j ≤ k) × (h : Term) × Reaches P a j h
  MeetsDemand ms P k Lazy a = Unit {0}

  pub MeetDemands : Modules → Program → ℕ → Demands → Terms → Type 0
  MeetDemands ms P k NoDemands Nil = Unit {0}
  MeetDemands ms P k NoDemands (Cons t ts) = ⊥
  MeetDemands ms P k (MoreDemands d ds) Nil = ⊥
  MeetDemands ms P k (MoreDemands d ds) (Cons t ts) = MeetsDemand ms P k d t × MeetDemands ms P k ds ts

abbrev mutual
  -- what a demand does not tell apart
  pub AlikeFor : Program → Demand → Term → Term → Type 0
  AlikeFor P Bottom a b = Unit {0}
  AlikeFor P Absent a b = Unit {0}
  AlikeFor P (Product c ds) a b =
      (a ≡ b) ⊎
      ((j i : ℕ) × (ss : List Sort) × (ts us : Terms) × Reaches P a j (Con c ss ts) × Reaches P b i (Con c ss us) × AllAlike P ds ts us)
  AlikeFor P Strict a b = a ≡ b
  AlikeFor P Lazy a b = a ≡ b

  pub AllAlike : Program → Demands → Terms → Terms → Type 0
  AllAlike P NoDemands Nil Nil = Unit {0}
  AllAlike P (MoreDemands d ds) (Cons t ts) (Cons u us) = AlikeFor P d t u × AllAlike P ds ts us
  AllAlike P NoDemands Nil (Cons u us) = ⊥
  AllAlike P NoDemands (Cons t ts) us = ⊥
  AllAlike P (MoreDemands d ds) Nil us = ⊥
  AllAlike P (MoreDemands d ds) (Cons t ts) Nil = ⊥

abbrev pub demand_count : Demands → ℕ
demand_count NoDemands = zero
demand_count (MoreDemands d ds) = suc (demand_count ds)

-- closed arguments of these sorts
abbrev pub AreArguments : List Sort → Terms → Type 0
AreArguments ss ts = AreSorted [] ts × HasSorts [] ss ts

-- of a function with lambdas of these sorts: where a call comes to a head, each argument meets its demand; calls with arguments that are
-- alike show the same; and no call of one that diverges comes to a head
pub record CallsKeep (ms : Modules) (P : Program) (f : Name) (ds : Demands) (diverges : Bool) (ss : List Sort) : Type 0 where
  pub met : (args : Terms) → AreArguments ss args → (k : ℕ) (h : Term) → Reaches P (applied_term (Global f) ss args) k h → MeetDemands ms P k ds args
  pub alike : (args brgs : Terms) → AreArguments ss args → AreArguments ss brgs → AllAlike P ds args brgs → (o : Observation) → Sees P (applied_term (Global f) ss args) o
      → Sees P (applied_term (Global f) ss brgs) o
  pub divergent : diverges ≡ true → (args : Terms) → AreArguments ss args → (k : ℕ) (h : Term) → Reaches P (applied_term (Global f) ss args) k h → ⊥

abbrev pub IsTrueSignature : Modules → Program → Name → Sig → Type 0
IsTrueSignature ms P f (SigOf ds diverges) =
    (ss : List Sort) × (b : Term) × (P f ≡ Some (lambdas ss b)) × (length ss ≡ demand_count ds) × CallsKeep ms P f ds diverges ss
