-- The first of some modules, as code has it in hand: left as it is, without what nothing needs, measured, and with its definitions marked.
use Rattle.std.proofs.Common.{◌≡◌, ◌-◌, ◌≤◌, ℕ, Bool, true, nat_lt, List, [], ◌∷◌, length, refl, sym, ap, ◌∙◌, arith, subst}
use Rattle.std.specs.Prelude.{slice_index_or, slice_set}
use Rattle.fc_syntax.specs.Limits.{standard_limits}
use Rattle.fc_syntax.specs.Measures.{decls_size}
use Rattle.fc_syntax.specs.View.{decls_of}
use Rattle.fc_syntax.specs.declared.module.Module as RustModule
use Rattle.fc_syntax.specs.declared.ty.Ref.{Ref}
use Rattle.fc_log.specs.declared.log.Entry.{Entry}
use Rattle.fc_model.specs.NamelessView.{nmodule_of, nmodules_of}
use Rattle.fc_reaching.specs.Firsts.{AreFirst}
use Rattle.fc_rows.specs.Dropping.{DropsDead}
use Rattle.fc_result_limits.proofs.Bare.{decls_same}
use Rattle.fc_limits_at_places.specs.Fitting.{nmodule_size}
use Rattle.fc_limits_at_places.proofs.Unworded.{within_measures}
use Rattle.fc_apply.specs.Steps.{FirstDrops, FirstFits}
use Rattle.fc_simplify.specs.Phase.{Continues, FirstHasSpare, FirstsAre}
use Rattle.fc_simplify.proofs.Logs.{continues_same}
use Rattle.fc_simplify.proofs.Words.{firsts_are}

abbrev Form : Type 0
Form = RustModule.Module ℕ Ref

set_same : {X : Type 0} (xs : List X) (x z : X) → x ≡ slice_index_or xs 0 z → slice_set xs 0 x ≡ xs
set_same [] x z is = refl
set_same (y ∷ xs) x z is = ap (λ w. w ∷ xs) is

-- it was left as it is
pub same_first : (ms : List Form) (m z : Form) (es fs : List Entry) → m ≡ slice_index_or ms 0 z → fs ≡ es → Continues (nmodules_of ms) (nmodules_of (slice_set ms 0 m)) es fs
same_first ms m z es fs is log =
    subst (λ ks. Continues (nmodules_of ms) (nmodules_of ks) es fs) (sym (set_same ms m z is)) (subst (Continues (nmodules_of ms) (nmodules_of ms) es) (sym log) (continues_same (nmodules_of ms) es))

-- definitions went
pub first_dropped : (ms : List Form) (m k z : Form) → m ≡ slice_index_or ms 0 z → true ≡ nat_lt 0 (length ms) → DropsDead (nmodule_of m) (nmodule_of k) → FirstDrops (nmodules_of ms) (nmodules_of (slice_set ms 0 k))
first_dropped [] m k z is some drops = cc
first_dropped (x ∷ ms) m k z is some drops = (refl, subst (λ q. DropsDead (nmodule_of q) (nmodule_of k)) is drops)

-- it was measured
pub first_spare : (ms : List Form) (m z : Form) (size : ℕ) → m ≡ slice_index_or ms 0 z → true ≡ nat_lt 0 (length ms) → FirstFits (nmodules_of ms) → size ≡ decls_size (decls_of m.decls)
    → (size ≤ standard_limits.result_size) × FirstHasSpare (standard_limits.result_size - size) (nmodules_of ms)
first_spare [] m z size is some fits measured = cc
first_spare (x ∷ ms) m z size is some fits measured =
    let same : size ≡ nmodule_size (nmodule_of x) = measured ∙ (decls_same (decls_of m.decls)).0 ∙ ap (λ k. nmodule_size (nmodule_of k)) is in
    let small = ((within_measures (nmodule_of x)).0 fits).1 in
    (omega (arith, same, small), record { within = fits; sum = omega (arith, same, small) })

-- its definitions were marked
pub first_marked : (ms : List Form) (m z : Form) (marks : List Bool) → m ≡ slice_index_or ms 0 z → true ≡ nat_lt 0 (length ms) → AreFirst (nmodule_of m) marks → FirstsAre marks (nmodules_of ms)
first_marked [] m z marks is some are = absurd cc
first_marked (x ∷ ms) m z marks is some are = firsts_are (nmodule_of x) (nmodules_of ms) marks (subst (λ q. AreFirst (nmodule_of q) marks) is are)
