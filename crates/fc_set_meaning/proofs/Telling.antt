-- What is told of modules is so in the program that holds them, and stays so where another module takes its place.
use Rattle.std.proofs.Common.{◌≡◌, Bool, true, false, if◌then◌else◌, List, [], ◌∷◌, Some, sym, ap, ◌∙◌}
use Rattle.std.specs.List.{AllByRecursion as Each}
use Rattle.std.specs.Str.{bytes_eq}
use Rattle.fc_syntax.specs.Tree.{Word}
use Rattle.fc_model.specs.Erasure.{erased, no_scope}
use Rattle.fc_model.specs.Headers.{ndecls_in}
use Rattle.fc_model.specs.Nameless.{NExpr, NDecl, NData, NNew, NFamily, NAxiom, NDef, NWrap, NModule, NModuleOf}
use Rattle.fc_model.specs.Programs.{right_side}
use Rattle.fc_model.specs.Resolution.{WordSet, no_word, plus}
use Rattle.fc_model.specs.ResolutionRules.{AreDistinct, one_word_more}
use Rattle.fc_model.specs.Stepping.{Program}
use Rattle.fc_model.proofs.Sameness.{bytes_eq_refl, false_true}
use Rattle.fc_reaching.specs.Numbering.{word_of}
use Rattle.fc_reaching.specs.Reaching.{defined_words}
use Rattle.fc_rows.specs.Telling.{told_declarations, told_module}
use Rattle.fc_kept_meaning.specs.FairImports.{TellDeclarations, TellsTruth, TellTruth, named_in}
use Rattle.fc_kept_meaning.specs.MeaningKept.{HoldsModule, with_module}
use Rattle.fc_replay_meaning.proofs.ReplaysMeant.{module_there}

-- ANOTHER MODULE IN ITS PLACE

pub each_there : (k : NModule) (P : Program) (xs : List NModule) → Each (λ x. bytes_eq (word_of x) (word_of k) ≡ false) xs → Each (TellsTruth P) xs → Each (TellsTruth (with_module k P)) xs
each_there k P [] others tells = tt
each_there k P (x ∷ xs) others tells = (module_there k P x others.0 tells.0, each_there k P xs others.1 tells.1)

pub each_tells : (P : Program) (xs : List NModule) → Each (TellsTruth P) xs → TellTruth P xs
each_tells P [] h = tt
each_tells P (x ∷ xs) h = (h.0, each_tells P xs h.1)

-- WHAT IS TOLD OF A MODULE THAT A PROGRAM HOLDS

module _ (P : Program) (m : Word) where
  -- the program has the right sides of these declarations, but for words of others before them
  abbrev HasRights : WordSet → List NDecl → Type 0
  HasRights earlier ds = (w : Word) → earlier w ≡ false → P (named_in m w) ≡ right_side ds w

  -- behind the definition of a word it has those of the others
  rights_behind : (n : Word) (e : NExpr) (earlier : WordSet) (ds : List NDecl)
      → ((w : Word) → earlier w ≡ false → P (named_in m w) ≡ (if bytes_eq n w then Some (erased no_scope e) else right_side ds w)) → HasRights (plus n earlier) ds
  rights_behind n e earlier ds has w = either (bytes_eq n w) (has w)
    where
      either : (b : Bool) → (earlier w ≡ false → P (named_in m w) ≡ (if b then Some (erased no_scope e) else right_side ds w)) → (if b then true else earlier w) ≡ false
          → P (named_in m w) ≡ right_side ds w
      either true h new = false_true (sym new)
      either false h new = h new

  right_here : (n : Word) (e : NExpr) (earlier : WordSet) (ds : List NDecl) → earlier n ≡ false
      → ((w : Word) → earlier w ≡ false → P (named_in m w) ≡ (if bytes_eq n w then Some (erased no_scope e) else right_side ds w)) → P (named_in m n) ≡ Some (erased no_scope e)
  right_here n e earlier ds new has = has n new ∙ ap (λ b. if b then Some (erased no_scope e) else right_side ds n) (bytes_eq_refl n)

  told_truly : (bs : List Bool) (earlier : WordSet) (ds : List NDecl) → AreDistinct earlier (defined_words ds) → HasRights earlier ds → TellDeclarations P m (told_declarations bs ds)
  told_truly bs earlier [] distinct has = tt
  told_truly bs earlier (NData n ps cs ∷ ds) distinct has = told_truly bs earlier ds distinct has
  told_truly bs earlier (NNew n ps t con ∷ ds) distinct has = told_truly bs earlier ds distinct has
  told_truly bs earlier (NFamily n ps k ∷ ds) distinct has = told_truly bs earlier ds distinct has
  told_truly bs earlier (NAxiom n ps t u ∷ ds) distinct has = told_truly bs earlier ds distinct has
  told_truly [] earlier (NDef n t e ∷ ds) (one_word_more new more) has = (λ is. false_true is, told_truly [] (plus n earlier) ds more (rights_behind n e earlier ds has))
  told_truly [] earlier (NWrap n t e ∷ ds) (one_word_more new more) has = (λ is. false_true is, told_truly [] (plus n earlier) ds more (rights_behind n e earlier ds has))
  told_truly (true ∷ bs) earlier (NDef n t e ∷ ds) (one_word_more new more) has =
      (λ is. right_here n e earlier ds new has, told_truly bs (plus n earlier) ds more (rights_behind n e earlier ds has))
  told_truly (true ∷ bs) earlier (NWrap n t e ∷ ds) (one_word_more new more) has =
      (λ is. right_here n e earlier ds new has, told_truly bs (plus n earlier) ds more (rights_behind n e earlier ds has))
  told_truly (false ∷ bs) earlier (NDef n t e ∷ ds) (one_word_more new more) has =
      (λ is. false_true is, told_truly bs (plus n earlier) ds more (rights_behind n e earlier ds has))
  told_truly (false ∷ bs) earlier (NWrap n t e ∷ ds) (one_word_more new more) has =
      (λ is. false_true is, told_truly bs (plus n earlier) ds more (rights_behind n e earlier ds has))

pub module_told : (P : Program) (bs : List Bool) (k : NModule) → AreDistinct no_word (defined_words (ndecls_in k)) → HoldsModule P k → TellsTruth P (told_module bs k)
module_told P bs (NModuleOf m imports exports hidden ds) distinct holds = told_truly P m bs no_word ds distinct (λ w new. holds (named_in m w) (bytes_eq_refl m))
