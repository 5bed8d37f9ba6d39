-- What logs of the modules of a set, one after the other, keep of what its program shows.
use Rattle.std.specs.Prelude.{◌≡◌, All, Bool, true, false, List, [], Option, Some, None}
use Rattle.fc_syntax.specs.declared.ty.Name.{Name}
use Rattle.fc_syntax.specs.Tree.{Word}
use Rattle.fc_log.specs.declared.log.Entry.{Entry}
use Rattle.fc_model.specs.Headers.{ndecls_in}
use Rattle.fc_model.specs.Nameless.{NModule}
use Rattle.fc_model.specs.Programs.{IsMainExpression, Mentions, program_of}
use Rattle.fc_model.specs.Terms.{Term, IsSorted}
use Rattle.fc_meaning.specs.Laws.{ShowsTheSame}
use Rattle.fc_meaning.proofs.WrittenExpressions.{AreDeclsWritten}
use Rattle.fc_counted.specs.CountingLaws.{SeesSame}
use Rattle.fc_set_types.specs.SetsReplayed.{LintInOrder, ReplayedInOrder, is_offered_by}

-- a name that may be asked of a set: one that the first module of its name offers
abbrev pub is_asked_of : List NModule → Option Word → Word → Bool
is_asked_of ns None w = false
is_asked_of ns (Some m) w = is_offered_by ns m w

abbrev pub MayBeAskedOf : List NModule → Name → Type 0
MayBeAskedOf ns n = is_asked_of ns n.module n.text ≡ true

-- Modules that lint in order, and whose right sides are written, are replayed and headed anew: each closed sorted term over what they offer sees the same observations
-- in the program of those that are left.
abbrev pub ReplayedSetsKeepMeaning : Type 0
ReplayedSetsKeepMeaning = (es : List (List Entry)) (ns ks : List NModule) → LintInOrder ns [] ns → All (λ n. AreDeclsWritten (ndecls_in n)) ns → ReplayedInOrder [] es ns ks
    → (t : Term) → IsSorted [] t → Mentions (MayBeAskedOf ns) t → SeesSame (program_of ns) (program_of ks) t

-- so each main expression over the exports of the modules is one over those of what is left, and shows the same in both programs
abbrev pub MainExpressionsShowTheSame : Type 0
MainExpressionsShowTheSame = (es : List (List Entry)) (ns ks : List NModule) → LintInOrder ns [] ns → All (λ n. AreDeclsWritten (ndecls_in n)) ns → ReplayedInOrder [] es ns ks
    → (t : Term) → IsMainExpression ns t → IsMainExpression ks t × ShowsTheSame ns ks t
