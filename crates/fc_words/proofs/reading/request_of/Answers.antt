-- What clap's clauses say of the command, they say of `coreopt_app`.
use Rattle.std.proofs.Common.{◌≡◌, List, [], refl, rules, subst, sym, true}
use Rattle.std.specs.Prelude.{IfSome, option_and_then}
use Rattle.clap.specs.Faults.{fault_of, is_simple_and_free}
use Rattle.clap.specs.Kinds.{HasKind}
use Rattle.clap.specs.Simple.{App, HasMatchesOf, subcommand_of}
use Rattle.clap.specs.Values.{kind_of}
use Rattle.clap.specs.Walk.{Text}
use Rattle.clap.specs.declared.error.kind.ErrorKind.TheVariants as kind
use Rattle.fc_words.specs.Asking.{asked_by, texts}
use Rattle.fc_words.specs.Commands.{coreopt_app}
use Rattle.fc_words.specs.Numbers.{HasNumbersBy}
use Rattle.fc_words.proofs.Ranges.{numbers_found}
use Rattle.fc_words.proofs.Refusals.{refused}
use Rattle.fc_words.proofs.reading.request_of.Goals as goal

pub request_in-requires : goal.request_in-requires
request_in-requires c =
    let words : List Text = texts c.args.words.now in
    let Fine : App → Type 0 = λ app. is_simple_and_free app ≡ true → fault_of app words ≡ [] in
    let fine : Fine coreopt_app = subst Fine c.in-Ok.ensures c.in-Ok-try_get_matches_from.ensures.kinds in
    let Finds : App → Type 0 = λ app. HasMatchesOf app words c.in-Ok-try_get_matches_from.matches in
    let finds : Finds coreopt_app = subst Finds c.in-Ok.ensures c.in-Ok-try_get_matches_from.ensures.matches in
    subst (λ o. IfSome o HasNumbersBy) (sym (finds refl).1) (numbers_found words (fine refl))

pub returns-clause-usage : goal.returns-clause-usage
returns-clause-usage c u =
    let words : List Text = texts c.args.words.now in
    let Fails : App → Type 0 = λ app. is_simple_and_free app ≡ true → HasKind (fault_of app words) c.in-Err.error in
    let fails : Fails coreopt_app = subst Fails c.in-Ok.ensures c.in-Err.ensures.kinds in
    let other : kind_of c.in-Err.error ≡ kind.OutOfMemory → ⊥ = search rules in
    refused (fault_of coreopt_app words) (option_and_then asked_by (subcommand_of coreopt_app words)) c.in-Err.error (fails refl) other
