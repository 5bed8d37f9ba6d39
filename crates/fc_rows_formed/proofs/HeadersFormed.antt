-- What is told of a formed module is formed, and so is the module under its written header.
use Rattle.std.proofs.Common.{◌≡◌, Bool, true, false, not, ◌&&◌, List, [], ◌∷◌, refl}
use Rattle.std.specs.List.{list_all}
use Rattle.std.specs.Prelude.{is_none}
use Rattle.std.proofs.lemmas.Bool.{and_from, and_parts, or_left, or_right}
use Rattle.fc_syntax.specs.Tokens.{is_lower_name, is_module_name, is_plain_name, is_upper_name}
use Rattle.fc_syntax.specs.Tree.{Word}
use Rattle.fc_model.specs.Declaring.{ncon_words, ndecl_words, ndeclared_words}
use Rattle.fc_model.specs.Formed.{is_lower_word, is_upper_word, is_word}
use Rattle.fc_model.specs.Headers.{words_but}
use Rattle.fc_model.specs.Nameless.{NConDecl, NConOf, NDecl, NData, NNew, NFamily, NAxiom, NDef, NWrap, NModuleOf}
use Rattle.fc_model.specs.Resolution.{WordSet, no_word, plus, plus_all}
use Rattle.fc_model.specs.Words.{keyword_of}
use Rattle.fc_model.proofs.UnderHeader.{all_of_both, others_are_among}
use Rattle.fc_headers.specs.NamelessHeaders.{modules_in_decls}
use Rattle.fc_rows.specs.Telling.{told_declarations}
use Rattle.fc_formed.specs.FormedTrees.{AreFormedCons, IsFormedDecl, AreFormedDecls}
use Rattle.fc_rows_formed.specs.RowsFormed.{HeadedIsFormed, ToldIsFormed}
use Rattle.fc_rows_formed.proofs.Answered.{either}

-- TELLING

told_formed : (bs : List Bool) (ds : List NDecl) → AreFormedDecls ds → AreFormedDecls (told_declarations bs ds)
told_formed bs [] w = tt
told_formed bs (NData n ps cs ∷ ds) w = (w.0, told_formed bs ds w.1)
told_formed bs (NNew n ps t con ∷ ds) w = (w.0, told_formed bs ds w.1)
told_formed bs (NFamily n ps k ∷ ds) w = (w.0, told_formed bs ds w.1)
told_formed bs (NAxiom n ps t u ∷ ds) w = (w.0, told_formed bs ds w.1)
told_formed [] (NDef n t e ∷ ds) w = ((w.0.0, w.0.1, w.0.1), told_formed [] ds w.1)
told_formed [] (NWrap n t e ∷ ds) w = ((w.0.0, w.0.1, w.0.1), told_formed [] ds w.1)
told_formed (true ∷ bs) (NDef n t e ∷ ds) w = (w.0, told_formed bs ds w.1)
told_formed (true ∷ bs) (NWrap n t e ∷ ds) w = (w.0, told_formed bs ds w.1)
told_formed (false ∷ bs) (NDef n t e ∷ ds) w = ((w.0.0, w.0.1, w.0.1), told_formed bs ds w.1)
told_formed (false ∷ bs) (NWrap n t e ∷ ds) w = ((w.0.0, w.0.1, w.0.1), told_formed bs ds w.1)

pub told_is_formed : ToldIsFormed
told_is_formed bs (NModuleOf m imports exports hidden ds) w = (w.0, w.1, told_formed bs ds w.2)

-- WORDS OF A HEADER

all_kept : (p : Word → Bool) (chosen but : WordSet) (ws : List Word) → list_all p ws ≡ true → list_all p (words_but chosen but ws) ≡ true
all_kept p chosen but [] h = refl
all_kept p chosen but (w ∷ ws) h =
    let own = and_parts (p w) (list_all p ws) h in
    let rest = all_kept p chosen but ws own.1 in
    either (λ vs. list_all p vs ≡ true) (chosen w && not (but w)) (w ∷ words_but chosen but ws) (words_but chosen but ws)
    (and_from (p w) (list_all p (words_but chosen but ws)) own.0 rest) rest

-- a word of either case is a word
upper_is_word : (w : Word) → is_upper_word w ≡ true → is_word w ≡ true
upper_is_word w h =
    let own = and_parts (is_upper_name w) (is_none (keyword_of w)) h in
    and_from (is_plain_name w) (is_none (keyword_of w)) (or_right (is_lower_name w) (is_upper_name w) own.0) own.1

lower_is_word : (w : Word) → is_lower_word w ≡ true → is_word w ≡ true
lower_is_word w h =
    let own = and_parts (is_lower_name w) (is_none (keyword_of w)) h in
    and_from (is_plain_name w) (is_none (keyword_of w)) (or_left (is_lower_name w) (is_upper_name w) own.0) own.1

-- THE WRITTEN HEADER

con_words_formed : (cs : List NConDecl) → AreFormedCons cs → list_all is_word (ncon_words cs) ≡ true
con_words_formed [] w = refl
con_words_formed (NConOf n bs fields ∷ cs) w = and_from (is_word n) (list_all is_word (ncon_words cs)) (upper_is_word n w.0.0) (con_words_formed cs w.1)

one_word : (w : Word) → is_word w ≡ true → list_all is_word (w ∷ []) ≡ true
one_word w h = and_from (is_word w) true h refl

decl_words_formed : (d : NDecl) → IsFormedDecl d → list_all is_word (ndecl_words d) ≡ true
decl_words_formed (NData n ps cs) w = and_from (is_word n) (list_all is_word (ncon_words cs)) (upper_is_word n w.0) (con_words_formed cs w.1)
decl_words_formed (NNew n ps t con) w = and_from (is_word n) (list_all is_word (con ∷ [])) (upper_is_word n w.0.0) (one_word con (upper_is_word con w.0.1))
decl_words_formed (NFamily n ps k) w = one_word n (upper_is_word n w)
decl_words_formed (NAxiom n ps t u) w = one_word n (upper_is_word n w.0)
decl_words_formed (NDef n t e) w = one_word n (lower_is_word n w.0)
decl_words_formed (NWrap n t e) w = one_word n (lower_is_word n w.0)

declared_words_formed : (ds : List NDecl) → AreFormedDecls ds → list_all is_word (ndeclared_words ds) ≡ true
declared_words_formed [] w = refl
declared_words_formed (d ∷ ds) w = all_of_both is_word (ndecl_words d) (ndeclared_words ds) (decl_words_formed d w.0) (declared_words_formed ds w.1)

pub headed_is_formed : HeadedIsFormed
headed_is_formed order (NModuleOf m imports exports hidden ds) named w =
    let more = all_kept is_module_name (plus_all (modules_in_decls ds) no_word) (plus_all imports (plus m no_word)) order named in
    let unseen = others_are_among is_word (plus_all hidden (plus_all exports no_word)) (ndeclared_words ds) (declared_words_formed ds w.2) in
    ((w.0.0, all_of_both is_module_name imports _ w.0.1 more), (w.1.0, all_of_both is_word hidden _ w.1.1 unseen), w.2)
