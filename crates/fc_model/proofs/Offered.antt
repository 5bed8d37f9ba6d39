-- Tables of what modules have for others, one module after the other.
use Rattle.std.proofs.Common.{◌≡◌, Bool, true, false, ◌&&◌, if◌then◌else◌, List, [], ◌∷◌, ◌++◌, Option, Some, None, option_map, is_some, bytes_eq, refl, sym, ap, ◌∙◌, subst}
use Rattle.std.proofs.Math.Path.{fun_ext}
use Rattle.std.specs.HashMap.{get_by_text}
use Rattle.std.specs.Prelude.{String}
use Rattle.indexmap.specs.IndexMap.{IndexMap}
use Rattle.fc_syntax.specs.Tree.{Word}
use Rattle.fc_model.specs.Declaring.{ncoercion_words, nterm_words, ntype_words, nwords_by}
use Rattle.fc_model.proofs.Sameness.{bytes_eq_eq}
use Rattle.fc_model.specs.Kinding.{decls_of_module}
use Rattle.fc_model.specs.Linting.{offered_by, offers_of, told_by}
use Rattle.fc_model.specs.Nameless.{NDecl, NModule, NModuleOf}
use Rattle.fc_model.specs.OfferViews.{AreOffersOf, HaveOffers, IsOfferOf, Offered, declared_by_space, first_named, offered, offers_in, sets_of}
use Rattle.fc_model.proofs.ResolvedMore.{HasMore, OffersMore}
use Rattle.fc_model.specs.declared.offers.Offers as tables
use Rattle.fc_model.specs.declared.offers.Offers.TheVariants as code
use Rattle.fc_model.specs.Resolution.{Offers, Words, WordSet, no_word, plus_all}
use Rattle.fc_model.specs.declared.offers.Offer.{Offer}

-- one module in front
named_more : (m : Word) (imports exports hidden : List Word) (ds : List NDecl) (ns : List NModule) (w : Word) (b : Bool) (old : Option Offer) (o : Offer)
    → IsOfferOf (NModuleOf m imports exports hidden ds) o → Offered (first_named ns w) old
    → Offered (if b then Some (NModuleOf m imports exports hidden ds) else first_named ns w) (if b then Some o else old)
named_more m imports exports hidden ds ns w true old o here there = here
named_more m imports exports hidden ds ns w false old o here there = there

pub offers_more : (m : Word) (imports exports hidden : List Word) (ds : List NDecl) (ns : List NModule) (old new : Word → Option Offer) (o : Offer)
    → IsOfferOf (NModuleOf m imports exports hidden ds) o → ((w : Word) → new w ≡ (if bytes_eq m w then Some o else old w))
    → ((w : Word) → Offered (first_named ns w) (old w)) → (w : Word) → Offered (first_named (NModuleOf m imports exports hidden ds ∷ ns) w) (new w)
offers_more m imports exports hidden ds ns old new o here put there w =
    subst (λ x. Offered (first_named (NModuleOf m imports exports hidden ds ∷ ns) w) x) (sym (put w)) (named_more m imports exports hidden ds ns w (bytes_eq m w) (old w) o here (there w))

-- modules behind others: one counts where none of those before has its name
abbrev or_else : Option NModule → Option NModule → Option NModule
or_else (Some n) o = Some n
or_else None o = o

or_if : (b : Bool) (k : NModule) (f g o : Option NModule) → g ≡ or_else f o → (if b then Some k else g) ≡ or_else (if b then Some k else f) o
or_if true k f g o h = refl
or_if false k f g o h = h

behind_others : (ns ms : List NModule) (w : Word) → first_named (ns ++ ms) w ≡ or_else (first_named ns w) (first_named ms w)
behind_others [] ms w = refl
behind_others (NModuleOf m imports exports hidden ds ∷ ns) ms w =
    or_if (bytes_eq m w) (NModuleOf m imports exports hidden ds) (first_named ns w) (first_named (ns ++ ms) w) (first_named ms w) (behind_others ns ms w)

kept_there : (b : Bool) (n : NModule) (f : Option NModule) (old : Option Offer) → (b ≡ true → old ≡ None → ⊥) → Offered f old → Offered (or_else f (if b then Some n else None)) old
kept_there b n (Some k) old taken there = there
kept_there true n None None taken there = absurd (taken refl refl)
kept_there true n None (Some o) taken there = absurd there
kept_there false n None old taken there = there

put_there : (b : Bool) (n : NModule) (o : Offer) (f : Option NModule) (old : Option Offer) → (b ≡ true → old ≡ None) → IsOfferOf n o → Offered f old
    → Offered (or_else f (if b then Some n else None)) (if b then Some o else old)
put_there true n o (Some k) old free here there = absurd (subst (λ x. Offered (Some k) x) (free refl) there)
put_there true n o None old free here there = here
put_there false n o (Some k) old free here there = there
put_there false n o None old free here there = there

-- where one of them has its name, the tables stay
pub offers_kept : (m : Word) (imports exports hidden : List Word) (ds : List NDecl) (ns : List NModule) (old : Word → Option Offer) → (old m ≡ None → ⊥)
    → ((w : Word) → Offered (first_named ns w) (old w)) → (w : Word) → Offered (first_named (ns ++ NModuleOf m imports exports hidden ds ∷ []) w) (old w)
offers_kept m imports exports hidden ds ns old taken there w =
    subst (λ x. Offered x (old w)) (sym (behind_others ns (NModuleOf m imports exports hidden ds ∷ []) w))
    (kept_there (bytes_eq m w) (NModuleOf m imports exports hidden ds) (first_named ns w) (old w) (λ e none. taken (ap old (bytes_eq_eq m w e) ∙ none)) (there w))

-- where none has, its own table is put in
pub offers_behind : (m : Word) (imports exports hidden : List Word) (ds : List NDecl) (ns : List NModule) (old new : Word → Option Offer) (o : Offer)
    → IsOfferOf (NModuleOf m imports exports hidden ds) o → old m ≡ None → ((w : Word) → new w ≡ (if bytes_eq m w then Some o else old w))
    → ((w : Word) → Offered (first_named ns w) (old w)) → (w : Word) → Offered (first_named (ns ++ NModuleOf m imports exports hidden ds ∷ []) w) (new w)
offers_behind m imports exports hidden ds ns old new o here free put there w =
    subst (λ x. Offered x (new w)) (sym (behind_others ns (NModuleOf m imports exports hidden ds ∷ []) w))
    (subst (λ x. Offered (or_else (first_named ns w) (if bytes_eq m w then Some (NModuleOf m imports exports hidden ds) else None)) x) (sym (put w))
    (put_there (bytes_eq m w) (NModuleOf m imports exports hidden ds) o (first_named ns w) (old w) (λ e. ap old (sym (bytes_eq_eq m w e)) ∙ free) here (there w)))

-- what is found is there, and what is not is none
pub is_there : {X Y : Type 0} (f : X → Y) (x : Option X) (y : Option Y) → option_map f x ≡ y → is_some x ≡ true → y ≡ None → ⊥
is_there f (Some a) y e t n = let no : Some (f a) ≡ None = e ∙ n in absurd cc
is_there f None y e t n = absurd cc

pub is_not_there : {X Y : Type 0} (f : X → Y) (x : Option X) (y : Option Y) → option_map f x ≡ y → is_some x ≡ false → y ≡ None
is_not_there f (Some a) y e t = absurd cc
is_not_there f None y e t = sym e

-- what is told and declared under a name is so in the first module of the name
abbrev told_of : Option NModule → WordSet
told_of None w = false
told_of (Some (NModuleOf m imports exports hidden ds)) w = plus_all exports (plus_all hidden no_word) w

abbrev decls_of_first : Option NModule → List NDecl
decls_of_first None = []
decls_of_first (Some (NModuleOf m imports exports hidden ds)) = ds

told_if : (b : Bool) (m : Word) (imports exports hidden : List Word) (ds : List NDecl) (o : Option NModule) (w : Word) (c : Bool) → c ≡ told_of o w
    → (if b then plus_all exports (plus_all hidden no_word) w else c) ≡ told_of (if b then Some (NModuleOf m imports exports hidden ds) else o) w
told_if true m imports exports hidden ds o w c h = refl
told_if false m imports exports hidden ds o w c h = h

told_is : (ns : List NModule) (m w : Word) → told_by ns m w ≡ told_of (first_named ns m) w
told_is [] m w = refl
told_is (NModuleOf n imports exports hidden ds ∷ ns) m w = told_if (bytes_eq n m) n imports exports hidden ds (first_named ns m) w (told_by ns m w) (told_is ns m w)

decls_if : (b : Bool) (m : Word) (imports exports hidden : List Word) (ds : List NDecl) (o : Option NModule) (es : List NDecl) → es ≡ decls_of_first o
    → (if b then ds else es) ≡ decls_of_first (if b then Some (NModuleOf m imports exports hidden ds) else o)
decls_if true m imports exports hidden ds o es h = refl
decls_if false m imports exports hidden ds o es h = h

decls_are : (ns : List NModule) (m : Word) → decls_of_module ns m ≡ decls_of_first (first_named ns m)
decls_are [] m = refl
decls_are (NModuleOf n imports exports hidden ds ∷ ns) m = decls_if (bytes_eq n m) n imports exports hidden ds (first_named ns m) (decls_of_module ns m) (decls_are ns m)

-- so the tables have in a space what the module has
in_space : (space : Words → WordSet) (words : NDecl → List Word) → ((ds : List NDecl) → space (declared_by_space ds) ≡ plus_all (nwords_by words ds) no_word)
    → (n : Option NModule) (o : Option Offer) → Offered n o → (w : Word) → offered space o w ≡ told_of n w && plus_all (nwords_by words (decls_of_first n)) no_word w
in_space space words by None None h w = refl
in_space space words by (Some (NModuleOf m imports exports hidden ds)) (Some o) h w =
    ap (λ (s : WordSet). s w && space (sets_of o.declared) w) h.0 ∙ ap (λ s. plus_all exports (plus_all hidden no_word) w && space s w) h.1
    ∙ ap (λ (s : WordSet). plus_all exports (plus_all hidden no_word) w && s w) (by ds)
in_space space words by None (Some o) h w = absurd h
in_space space words by (Some n) None h w = absurd h

in_table : {Y S : Type 0} (ns : List NModule) (table : IndexMap (String Y) Offer S) (space : Words → WordSet) (words : NDecl → List Word)
    → ((ds : List NDecl) → space (declared_by_space ds) ≡ plus_all (nwords_by words ds) no_word) → AreOffersOf ns table
    → (λ m. offered space (get_by_text table m)) ≡ offered_by words ns
in_table ns table space words by are =
    fun_ext (λ m. fun_ext (λ w. in_space space words by (first_named ns m) (get_by_text table m) (are m) w
    ∙ ap (λ b. b && plus_all (nwords_by words (decls_of_first (first_named ns m))) no_word w) (sym (told_is ns m w))
    ∙ ap (λ ds. told_by ns m w && plus_all (nwords_by words ds) no_word w) (sym (decls_are ns m))))

abbrev three : (Word → WordSet) → (Word → WordSet) → (Word → WordSet) → Offers
three s t u = record { types = s; terms = t; coercions = u }

-- the tables of modules have what the modules have
pub tables_are : {Y S : Type 0} (ns : List NModule) (table : IndexMap (String Y) Offer S) → AreOffersOf ns table
    → three (λ m. offered (λ ws. ws.types) (get_by_text table m)) (λ m. offered (λ ws. ws.terms) (get_by_text table m)) (λ m. offered (λ ws. ws.coercions) (get_by_text table m)) ≡ offers_of ns
tables_are ns table are =
    ap (λ s. three s (λ m. offered (λ ws. ws.terms) (get_by_text table m)) (λ m. offered (λ ws. ws.coercions) (get_by_text table m))) (in_table ns table (λ ws. ws.types) ntype_words (λ ds. refl) are)
    ∙ ap (λ s. three (offered_by ntype_words ns) s (λ m. offered (λ ws. ws.coercions) (get_by_text table m))) (in_table ns table (λ ws. ws.terms) nterm_words (λ ds. refl) are)
    ∙ ap (λ s. three (offered_by ntype_words ns) (offered_by nterm_words ns) s) (in_table ns table (λ ws. ws.coercions) ncoercion_words (λ ds. refl) are)

-- what tables have that are those of modules
pub have_offers : (ns : List NModule) (o : tables.Offers) → HaveOffers ns o → offers_in o ≡ offers_of ns
unfolding offers_in
have_offers ns code.All h = absurd h
have_offers ns (code.Of table) h = tables_are ns table h

-- MORE MODULES BEHIND

abbrev offered_at : (NDecl → List Word) → Option NModule → Word → Bool
offered_at words o w = told_of o w && plus_all (nwords_by words (decls_of_first o)) no_word w

offered_is : (words : NDecl → List Word) (ns : List NModule) (m w : Word) → offered_by words ns m w ≡ offered_at words (first_named ns m) w
offered_is words ns m w =
    ap (λ b. b && plus_all (nwords_by words (decls_of_module ns m)) no_word w) (told_is ns m w)
    ∙ ap (λ ds. told_of (first_named ns m) w && plus_all (nwords_by words ds) no_word w) (decls_are ns m)

more_at : (words : NDecl → List Word) (o p : Option NModule) (w : Word) → offered_at words o w ≡ true → offered_at words (or_else o p) w ≡ true
more_at words (Some n) p w h = h
more_at words None p w h = absurd cc

more_by : (words : NDecl → List Word) (ns ms : List NModule) → HasMore (offered_by words ns) (offered_by words (ns ++ ms))
more_by words ns ms m w h =
    offered_is words (ns ++ ms) m w ∙ ap (λ o. offered_at words o w) (behind_others ns ms m)
    ∙ more_at words (first_named ns m) (first_named ms m) w (sym (offered_is words ns m w) ∙ h)

-- what modules have for others they have where more modules stand behind them
pub offers_of_more : (ns ms : List NModule) → OffersMore (offers_of ns) (offers_of (ns ++ ms))
offers_of_more ns ms = record { types = more_by ntype_words ns ms; terms = more_by nterm_words ns ms; coercions = more_by ncoercion_words ns ms }
