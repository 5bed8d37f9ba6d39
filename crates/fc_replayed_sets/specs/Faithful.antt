-- What is made of the modules of a set is faithful to them.
use Rattle.std.specs.Prelude.{◌≡◌, All, true, List, [], ◌∷◌, map}
use Rattle.fc_syntax.specs.Tree.{Word, Module}
use Rattle.fc_model.specs.Formed.{IsFormed}
use Rattle.fc_model.specs.Headers.{name_of}
use Rattle.fc_model.specs.Linting.{SetLints, nameless_forms}
use Rattle.fc_model.specs.Nameless.{NModule, NModuleOf}
use Rattle.fc_model.specs.Planning.{build_order, is_among}
use Rattle.fc_model.specs.Programs.{IsMainExpression}
use Rattle.fc_model.specs.Terms.{Term}
use Rattle.fc_model.specs.Typing.{def_type}
use Rattle.fc_formed.specs.FormedTrees.{IsFormedModule}
use Rattle.fc_log.specs.declared.log.Log.{Log}
use Rattle.fc_meaning.specs.Laws.{ShowsTheSame}
use Rattle.fc_set_rules.specs.FormsDecide.{AllResolve}
use Rattle.fc_set_types.specs.SetsReplayed.{type_declarations}
use Rattle.fc_used_words.specs.Scoped.{IsScoped}
use Rattle.fc_replayed_sets.specs.Replays.{AreReplays, TellsAnything}

-- WHAT A MODULE OFFERS

-- two modules have one name, export the same words, each that is of a definition at the same type, and have the same declarations of types
abbrev pub OffersTheSame : NModule → NModule → Type 0
OffersTheSame (NModuleOf m imports exports hidden ds) (NModuleOf n imports_then exports_then hidden_then es) =
    (m ≡ n) × (exports ≡ exports_then) × ((w : Word) → is_among exports w ≡ true → def_type ds w ≡ def_type es w) × (type_declarations ds ≡ type_declarations es)

pub data OfferTheSame : List NModule → List NModule → Type 0 where
  none_offer : OfferTheSame [] []
  one_offers : {n k : NModule} {ns ks : List NModule} → OffersTheSame n k → OfferTheSame ns ks → OfferTheSame (n ∷ ns) (k ∷ ks)

-- Modules are faithful to those that were read, both in the order in which they are built: they lint as a set, they offer the same, and each main
-- expression over the exports of the modules read is one over theirs, and shows exactly the same in the programs of both.
pub record AreFaithful (read written : List Module) : Type 0 where
  pub lint : SetLints written
  pub names : map name_of written ≡ map name_of read
  pub offer : OfferTheSame (nameless_forms read) (nameless_forms written)
  pub mean : (t : Term) → IsMainExpression (nameless_forms read) t
      → IsMainExpression (nameless_forms written) t × ShowsTheSame (nameless_forms read) (nameless_forms written) t

-- THE LAWS, of a set that lints in the order in which it is built, whatever later modules are told

-- a nameless module that can be written: its names mean something, and it is of the text form but for the words of its binders
pub record CanBeWritten (n : NModule) : Type 0 where
  pub scoped : IsScoped n
  pub formed : IsFormedModule n

-- replays can be written
abbrev pub ReplaysCanBeWritten : Type 0
ReplaysCanBeWritten = (ms : List Module) → SetLints (build_order ms) → All IsFormed (build_order ms) → (logs : List Log) (ks : List NModule)
    → AreReplays (map name_of (build_order ms)) TellsAnything [] logs (nameless_forms (build_order ms)) ks → All CanBeWritten ks

-- and what is written of them is faithful
abbrev pub ReplayedSetsAreFaithful : Type 0
ReplayedSetsAreFaithful = (ms : List Module) → SetLints (build_order ms) → All IsFormed (build_order ms) → (logs : List Log) (ks : List NModule)
    → AreReplays (map name_of (build_order ms)) TellsAnything [] logs (nameless_forms (build_order ms)) ks → (ws : List Module) → AllResolve ws ks → AreFaithful (build_order ms) ws
