-- What the parts of a judgement come to.
use Rattle.std.proofs.Common.{◌≡◌, ◌≤◌, ◌<◌, ◌∙◌, ap, get_or, map, option_map, ℕ, List, None, Some, Option, Result, Ok, Err, IfOk, IfErr, IfSome, length, reverse, slice_get, sym, subst, refl}
use Rattle.std.proofs.lemmas.Option.{slice_get-map, slice_get_read}
use Rattle.fc_files.specs.Outside.{FileMap}
use Rattle.fc_syntax.specs.Limits.{standard_limits}
use Rattle.fc_syntax.specs.Tree.{Word, Module}
use Rattle.fc_syntax.specs.declared.fault.Fault.{Fault}
use Rattle.fc_syntax.specs.declared.fault.FaultKind.TheVariants as kind
use Rattle.fc_syntax.specs.declared.fault.Memory.{Memory}
use Rattle.fc_syntax.specs.declared.fault.Place.TheVariants as place
use Rattle.fc_syntax.specs.declared.fault.Refusal.{Refusal}
use Rattle.fc_syntax.specs.declared.fault.Refusal.TheVariants as refusal
use Rattle.fc_model.specs.Linting.{In, SetLints, set_judged}
use Rattle.fc_model.specs.Planning.{PlanFault, build_order, of_file, plan_fault}
use Rattle.fc_model.specs.Says.{fault_of}
use Rattle.fc_model.specs.declared.flaw.Flaw.{Flaw}
use Rattle.fc_plan.specs.Refusing.{Tells}
use Rattle.fc_load.specs.Loading.{AllReadTo, nothing_read}
use Rattle.fc_build.specs.Acceptance.{FaultOfSet, faulty, of_module as fault_of_module, of_one_too_many, of_the_set, too_many, unlinted, unplanned}
use Rattle.fc_build.specs.Judging.{IsOfFiles, Judges, JudgesSet}
use Rattle.fc_build.specs.declared.judge.Judged.{Judged}
use Rattle.fc_build.specs.declared.judge.Judged.TheVariants as judged

-- what stands against a set as a whole is its first fault
pub unplanned_as : (ms : List Module) (r : Refusal) (f : Fault) → r ≡ refusal.Fault f → Tells (plan_fault ms) r → FaultOfSet ms f
unplanned_as ms r f e tells = by_fault (plan_fault ms) refl (subst (Tells (plan_fault ms)) e tells)
  where
    by_fault : (o : Option PlanFault) → plan_fault ms ≡ o → Tells o (refusal.Fault f) → FaultOfSet ms f
    by_fault None is t = absurd t
    by_fault (Some p) is t = unplanned p is t

-- a set that stands as a whole, with a premise of Lint that fails, and what is answered then
pub unlinted_as : (ms : List Module) (name : Word) (f : Flaw) (r : Result Fault Memory) (j : Judged) → plan_fault ms ≡ None
    → set_judged (build_order ms) ≡ Err (In name (fault_of f)) → IfOk r (λ e. e ≡ fault_of_module name f.kind f.def (reverse f.path))
    → IfOk r (λ e. j ≡ judged.Refused e) → IfErr r (λ x. j ≡ judged.Memory) → JudgesSet ms j
unlinted_as ms name f (Ok e) j planned lints is told untold = subst (JudgesSet ms) (sym told) (unlinted name f.kind f.def (reverse f.path) planned lints is)
unlinted_as ms name f (Err x) j planned lints is told untold = subst (JudgesSet ms) (sym untold) tt

-- the judgement of the modules that files hold is one of the files
pub judged_files : (files : List (List ℕ)) (held : FileMap) (ms : List Module) (j : Judged) → length files ≤ standard_limits.modules → AllReadTo held nothing_read files ms → JudgesSet ms j
    → Judges files held j
judged_files files held ms (judged.Accepted s) few read judges = record {
  few = few;
  read = subst (AllReadTo held nothing_read files) (sym judges.0) read;
  planned = subst (λ ns. plan_fault ns ≡ None) (sym judges.0) judges.1;
  lints = subst (λ ns. SetLints (build_order ns)) (sym judges.0) judges.2;
}
judged_files files held ms (judged.Refused f) few read judges = faulty ms few read judges
judged_files files held ms (judged.ReadFault name) few read judges = absurd judges
judged_files files held ms judged.Memory few read judges = tt

-- the same where files may not tell what they hold
pub judged_all : (held : Option FileMap) (files : List (List ℕ)) (ms : List Module) (j : Judged) → length files ≤ standard_limits.modules
    → IfSome held (λ m. AllReadTo m nothing_read files ms) → JudgesSet ms j → IfSome held (λ m. Judges files m j)
judged_all None files ms j few read judges = tt
judged_all (Some m) files ms j few read judges = judged_files files m ms j few read judges

-- the name of a number among those of files
pub named_at : {X : Type 0} (now : X → List ℕ) (names : List X) (i : ℕ) (x : X) → i < length names → x ≡ get_or names i x → slice_get (map now names) i ≡ Some (now x)
named_at now names i x below is = slice_get-map now names i ∙ ap (option_map now) (slice_get_read names (length names) i x refl below is)

-- a file too many, and what is answered then
pub too_many_as : (held : Option FileMap) (files : List (List ℕ)) (name : List ℕ) (r : Result Fault Memory) (j : Judged) → slice_get files standard_limits.modules ≡ Some name
    → IfOk r (λ f. f ≡ of_file kind.TooManyModules name place.Nowhere) → IfOk r (λ f. j ≡ judged.Refused f) → IfErr r (λ x. j ≡ judged.Memory) → IfSome held (λ m. Judges files m j)
too_many_as None files name r j at is told untold = tt
too_many_as (Some m) files name (Ok f) j at is told untold = subst (Judges files m) (sym told) (too_many name at is)
too_many_as (Some m) files name (Err x) j at is told untold = subst (Judges files m) (sym untold) tt

-- WHATEVER FILES HOLD

-- what is answered of modules, of which there are as many as files
pub judged_of : (files : List (List ℕ)) (ms : List Module) (j : Judged) → length files ≤ standard_limits.modules → length ms ≡ length files → JudgesSet ms j → IsOfFiles files j
judged_of files ms (judged.Accepted s) few as_many judges = record { few = few; as_many = ap length judges.0 ∙ as_many; planned = subst (λ ns. plan_fault ns ≡ None) (sym judges.0) judges.1 }
judged_of files ms (judged.Refused f) few as_many judges = of_the_set ms few as_many judges
judged_of files ms (judged.ReadFault name) few as_many judges = absurd judges
judged_of files ms judged.Memory few as_many judges = tt

-- a file too many
pub too_many_of : (files : List (List ℕ)) (name : List ℕ) (r : Result Fault Memory) (j : Judged) → slice_get files standard_limits.modules ≡ Some name
    → IfOk r (λ f. f ≡ of_file kind.TooManyModules name place.Nowhere) → IfOk r (λ f. j ≡ judged.Refused f) → IfErr r (λ x. j ≡ judged.Memory) → IsOfFiles files j
too_many_of files name (Ok f) j at is told untold = subst (IsOfFiles files) (sym told) (of_one_too_many name at is)
too_many_of files name (Err x) j at is told untold = subst (IsOfFiles files) (sym untold) tt
