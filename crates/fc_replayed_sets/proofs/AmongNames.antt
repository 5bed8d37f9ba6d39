-- Of modules that have names of their own, each is the one of its name.
use Rattle.std.proofs.Common.{◌≡◌, ◌∙◌, All, false, bytes_eq, if◌then◌else◌, List, [], ◌∷◌, map, ap}
use Rattle.std.specs.List.{AllByRecursion as Each}
use Rattle.std.proofs.lemmas.List.Elements.{All-from_recursion, All-head, All-tail}
use Rattle.fc_syntax.specs.Tree.{Word}
use Rattle.fc_model.specs.Kinding.{decls_of_module}
use Rattle.fc_model.specs.Nameless.{NModule, NModuleOf}
use Rattle.fc_model.proofs.Sameness.{bytes_eq_refl}
use Rattle.fc_reaching.specs.Numbering.{word_of}
use Rattle.fc_scoped.specs.LintedAreScoped.{IsAmong}
use Rattle.fc_replayed_sets.proofs.Ordered.{AreDistinctWords}

first_among : (x : NModule) (xs : List NModule) → IsAmong (x ∷ xs) x
first_among (NModuleOf m imports exports hidden ds) xs = ap (λ b. if b then ds else decls_of_module xs m) (bytes_eq_refl m)

-- behind a module of another name
past_other : (x : NModule) (xs : List NModule) (y : NModule) → bytes_eq (word_of x) (word_of y) ≡ false → IsAmong xs y → IsAmong (x ∷ xs) y
past_other (NModuleOf m imports exports hidden ds) xs (NModuleOf v is es hs cs) other among = ap (λ b. if b then ds else decls_of_module xs v) other ∙ among

module _ (x : NModule) (xs : List NModule) where
  abbrev IsOther : Word → Type 0
  IsOther w = bytes_eq (word_of x) w ≡ false

  all_past : (ys : List NModule) → All IsOther (map word_of ys) → Each (IsAmong xs) ys → Each (IsAmong (x ∷ xs)) ys
  all_past [] others among = tt
  all_past (y ∷ ys) others among =
      let names = map word_of ys in
      (past_other x xs y (All-head IsOther (word_of y) names others) among.0, all_past ys (All-tail IsOther (word_of y) names others) among.1)

each_among : (xs : List NModule) → AreDistinctWords (map word_of xs) → Each (IsAmong xs) xs
each_among [] differ = tt
each_among (x ∷ xs) differ = (first_among x xs, all_past x xs xs differ.0 (each_among xs differ.1))

pub all_among : (xs : List NModule) → AreDistinctWords (map word_of xs) → All (IsAmong xs) xs
all_among xs differ = All-from_recursion (IsAmong xs) xs (each_among xs differ)
