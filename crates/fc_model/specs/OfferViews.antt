-- What the tables of what modules have for others say.
use Rattle.std.specs.Prelude.{◌≡◌, ◌&&◌, ⊤, String, false, List, Option, Some, None, if◌then◌else◌, [], ◌∷◌}
use Rattle.std.specs.Str.{bytes_eq}
use Rattle.std.specs.HashMap.{get_by_text}
use Rattle.indexmap.specs.IndexMap.{IndexMap}
use Rattle.fc_syntax.specs.Tree.{Word}
use Rattle.fc_model.specs.Declaring.{ncoercion_words, nterm_words, ntype_words, nwords_by}
use Rattle.fc_model.specs.Nameless.{NDecl, NModule, NModuleOf}
use Rattle.fc_model.specs.Resolution as words
use Rattle.fc_model.specs.Resolution.{Words, WordSet, no_word, offers_all, plus_all}
use Rattle.fc_model.specs.WordSets.{set_of}
use Rattle.fc_model.specs.declared.declared.Spaces.{Spaces}
use Rattle.fc_model.specs.declared.offers.Offer.{Offer}
use Rattle.fc_model.specs.declared.offers.Offers.{Offers}
use Rattle.fc_model.specs.declared.offers.Offers.TheVariants as offers

-- the words of declarations by their space
abbrev pub declared_by_space : List NDecl → Words
declared_by_space ds = record {
  types = plus_all (nwords_by ntype_words ds) no_word;
  terms = plus_all (nwords_by nterm_words ds) no_word;
  coercions = plus_all (nwords_by ncoercion_words ds) no_word;
}

-- what tables of words say
abbrev pub sets_of : Spaces → Words
sets_of s = record { types = set_of s.types; terms = set_of s.terms; coercions = set_of s.coercions }

-- the table of one module: the words that it tells, and those that it declares
abbrev pub IsOfferOf : NModule → Offer → Type 0
IsOfferOf (NModuleOf m imports exports hidden ds) o = (set_of o.told ≡ plus_all exports (plus_all hidden no_word)) × (sets_of o.declared ≡ declared_by_space ds)

-- what a table has in a space
abbrev pub offered : (Words → WordSet) → Option Offer → WordSet
offered space None w = false
offered space (Some o) w = set_of o.told w && space (sets_of o.declared) w

-- what tables have for others
unfoldable pub offers_in : Offers → words.Offers
offers_in offers.All = offers_all
offers_in (offers.Of table) = record {
  types = λ m. offered (λ ws. ws.types) (get_by_text table m);
  terms = λ m. offered (λ ws. ws.terms) (get_by_text table m);
  coercions = λ m. offered (λ ws. ws.coercions) (get_by_text table m);
}

-- the first module of a name
abbrev pub first_named : List NModule → Word → Option NModule
first_named [] w = None
first_named (NModuleOf n imports exports hidden ds ∷ ns) w = if bytes_eq n w then Some (NModuleOf n imports exports hidden ds) else first_named ns w

-- a table is that of a module, where there is one
abbrev pub Offered : Option NModule → Option Offer → Type 0
Offered None None = ⊤
Offered (Some n) (Some o) = IsOfferOf n o
Offered None (Some o) = ⊥
Offered (Some n) None = ⊥

-- tables are those of the first modules of their names
abbrev pub AreOffersOf : {Y S : Type 0} → List NModule → IndexMap (String Y) Offer S → Type 0
AreOffersOf ns table = (w : Word) → Offered (first_named ns w) (get_by_text table w)

-- the tables are those of these modules
abbrev pub HaveOffers : List NModule → Offers → Type 0
HaveOffers ns offers.All = ⊥
HaveOffers ns (offers.Of table) = AreOffersOf ns table
