-- A module under its written header tells others all that it declares, and imports what it mentions and not itself.
use Rattle.std.proofs.Common.{◌≡◌, ◌∙◌, Bool, true, false, not, ◌&&◌, ◌||◌, if◌then◌else◌, bytes_eq, All, List, [], ◌∷◌, ◌++◌, refl, sym, ap}
use Rattle.std.specs.Cmp.Lexicographic.{nat_list_eq_equiv}
use Rattle.std.specs.List.{list_all}
use Rattle.std.proofs.lemmas.Bool.{or_left, or_parts, or_right}
use Rattle.std.proofs.lemmas.List.Elements.{All-append, All-cons, All-nil, All-weaker}
use Rattle.fc_syntax.specs.Tree.{Word}
use Rattle.fc_model.specs.Declaring.{ndeclared_words}
use Rattle.fc_model.specs.Headers.{others, words_but, ndecls_in}
use Rattle.fc_model.specs.Nameless.{NModule, NModuleOf}
use Rattle.fc_model.specs.Planning.{is_among}
use Rattle.fc_model.specs.Resolution.{WordSet, no_word, plus, plus_all}
use Rattle.fc_model.proofs.Lists.{plus_both, words_alone, words_put_in}
use Rattle.fc_model.proofs.Sameness.{bytes_eq_eq, false_true}
use Rattle.fc_headers.specs.NamelessHeaders.{form_written_among, modules_in_decls}
use Rattle.fc_resolved_names.specs.ResolvedNames.{ImportsOthers}
use Rattle.fc_scoped.specs.LintedAreScoped.{ImportsWhatItMentions}
use Rattle.fc_set_types.proofs.Reached.{all_at, all_listed, decided}
use Rattle.fc_written_sets.specs.WrittenSets.{TellsAll}

-- WORDS OF A HEADER

-- a word is in the set where it is one of those put in last, unless it was there before
put_in_last : (vs ws : List Word) (s : WordSet) (w : Word) → (plus_all vs s w ≡ false → is_among ws w ≡ true) → plus_all (vs ++ ws) s w ≡ true
put_in_last vs ws s w new =
    ap (λ f. f w) (plus_both vs ws s) ∙ words_put_in ws (plus_all vs s) w
    ∙ decided (plus_all vs s w) (λ h. or_right (is_among ws w) (plus_all vs s w) h) (λ h. or_left (is_among ws w) (plus_all vs s w) (new h))

-- a word that is not seen is among the others
among_others : (ws : List Word) (seen : WordSet) (w : Word) → is_among ws w ≡ true → seen w ≡ false → is_among (others seen ws) w ≡ true
among_others [] seen w a new = a
among_others (v ∷ vs) seen w a new = either (seen v) refl (bytes_eq v w) refl a (λ s. among_others vs s w)
  where
    either : (b : Bool) → seen v ≡ b → (c : Bool) → bytes_eq v w ≡ c → (c || is_among vs w) ≡ true
        → ((s : WordSet) → is_among vs w ≡ true → s w ≡ false → is_among (others s vs) w ≡ true) → is_among (if b then others seen vs else v ∷ others (plus v seen) vs) w ≡ true
    either true e true same h later = false_true (sym new ∙ ap seen (sym (bytes_eq_eq v w same)) ∙ e)
    either true e false same h later = later seen h new
    either false e true same h later = rw same refl
    either false e false same h later = rw same (later (plus v seen) h (rw same new))

-- a word that is chosen and not left out is among those
among_chosen : (chosen but : WordSet) (ws : List Word) (w : Word) → is_among ws w ≡ true → chosen w ≡ true → but w ≡ false → is_among (words_but chosen but ws) w ≡ true
among_chosen chosen but [] w a in_set new = a
among_chosen chosen but (v ∷ vs) w a in_set new = either (bytes_eq v w) refl a (λ h. among_chosen chosen but vs w h in_set new)
  where
    further : (b : Bool) → is_among (words_but chosen but vs) w ≡ true → is_among (if b then v ∷ words_but chosen but vs else words_but chosen but vs) w ≡ true
    further true h = or_right (bytes_eq v w) (is_among (words_but chosen but vs) w) h
    further false h = h

    either : (c : Bool) → bytes_eq v w ≡ c → (c || is_among vs w) ≡ true → (is_among vs w ≡ true → is_among (words_but chosen but vs) w ≡ true)
        → is_among (if chosen v && not (but v) then v ∷ words_but chosen but vs else words_but chosen but vs) w ≡ true
    either true same h later = let e = bytes_eq_eq v w same in rw (ap chosen e ∙ in_set, ap but e ∙ new, same) refl
    either false same h later = further (chosen v && not (but v)) (later h)

-- none of them is left out
none_left_out : (chosen but : WordSet) (ws : List Word) → All (λ w. but w ≡ false) (words_but chosen but ws)
none_left_out chosen but [] = All-nil (λ w. but w ≡ false)
none_left_out chosen but (w ∷ ws) = either (chosen w) (but w) refl (none_left_out chosen but ws)
  where
    either : (b c : Bool) → but w ≡ c → All (λ v. but v ≡ false) (words_but chosen but ws)
        → All (λ v. but v ≡ false) (if b && not c then w ∷ words_but chosen but ws else words_but chosen but ws)
    either true true e all = all
    either true false e all = All-cons (λ v. but v ≡ false) w (words_but chosen but ws) e all
    either false c e all = all

-- THE HEADER

pub tells_all : (order : List Word) (n : NModule) → TellsAll (form_written_among order n)
tells_all order (NModuleOf m imports exports hidden ds) =
    let seen : WordSet = plus_all hidden (plus_all exports no_word) in
    let declared : List Word = ndeclared_words ds in
    all_listed (plus_all (hidden ++ others seen declared) (plus_all exports no_word)) declared
    (λ w a. put_in_last hidden (others seen declared) (plus_all exports no_word) w (λ new. among_others declared seen w a new))

pub imports_others : (order : List Word) (n : NModule) → ImportsOthers n → ImportsOthers (form_written_among order n)
imports_others order (NModuleOf m imports exports hidden ds) others =
    let but : WordSet = plus_all imports (plus m no_word) in
    let chosen : WordSet = plus_all (modules_in_decls ds) no_word in
    All-append (λ w. bytes_eq w m ≡ false) imports (words_but chosen but order) others
    (All-weaker (λ w. but w ≡ false) (λ w. bytes_eq w m ≡ false) other (words_but chosen but order) (none_left_out chosen but order))
  where
    other : (w : Word) → plus_all imports (plus m no_word) w ≡ false → bytes_eq w m ≡ false
    other w h =
        let p = or_parts (is_among imports w) (plus m no_word w) (sym (words_put_in imports (plus m no_word) w) ∙ h) in
        nat_list_eq_equiv.symm w m ∙ (or_parts (bytes_eq m w) false (sym (words_alone (m ∷ []) w) ∙ p.1)).0

-- where each module that it mentions is one of those in order
pub imports_mentioned : (order : List Word) (n : NModule) → list_all (is_among order) (modules_in_decls (ndecls_in (form_written_among order n))) ≡ true → ImportsWhatItMentions (form_written_among order n)
imports_mentioned order (NModuleOf m imports exports hidden ds) there =
    let but : WordSet = plus_all imports (plus m no_word) in
    let mentioned : List Word = modules_in_decls ds in
    let chosen : WordSet = plus_all mentioned no_word in
    all_listed (plus_all (imports ++ words_but chosen but order) (plus m no_word)) mentioned
    (λ w a. put_in_last imports (words_but chosen but order) (plus m no_word) w
    (λ new. among_chosen chosen but order w (all_at (is_among order) mentioned w there a) (words_alone mentioned w ∙ a) new))
