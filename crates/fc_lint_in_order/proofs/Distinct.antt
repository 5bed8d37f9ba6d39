-- The definitions of what resolves have words that are all different.
use Rattle.std.proofs.Common.{bytes_eq, List, [], ◌∷◌, ◌++◌}
use Rattle.fc_syntax.specs.Tree.{Word, Module}
use Rattle.fc_model.specs.Declaring.{ncon_words, nterm_words, nwords_by}
use Rattle.fc_model.specs.Headers.{ndecls_in}
use Rattle.fc_model.specs.Nameless.{NConDecl, NConOf, NDecl, NData, NNew, NFamily, NAxiom, NDef, NWrap, NModule}
use Rattle.fc_model.specs.Resolution.{WordSet, no_word, plus}
use Rattle.fc_model.specs.ResolutionRules.{AreDistinct, one_word_more, Resolves, resolves_module}
use Rattle.fc_model.specs.TypingLaws.{HasDistinctTypes}
use Rattle.fc_reaching.specs.Reaching.{defined_words}
use Rattle.fc_replay_types.proofs.NeededClosed.{not_before}
use Rattle.fc_replay_types.proofs.StepsKept.{fewer_before}
use Rattle.fc_resolved_names.proofs.Distinct.{terms_distinct, types_distinct}

-- without the words of constructors before them
behind_constructors : (cs : List NConDecl) (ws : List Word) (earlier : WordSet) → AreDistinct earlier (ncon_words cs ++ ws) → AreDistinct earlier ws
behind_constructors [] ws earlier h = h
behind_constructors (NConOf n bs fields ∷ cs) ws earlier (one_word_more new rest) =
    fewer_before (plus n earlier) earlier (λ w. not_before (bytes_eq n w) (earlier w)) (behind_constructors cs ws (plus n earlier) rest)

-- definitions alone, of all that is of the terms
definitions_of_terms : (ds : List NDecl) (earlier : WordSet) → AreDistinct earlier (nwords_by nterm_words ds) → AreDistinct earlier (defined_words ds)
definitions_of_terms [] earlier h = h
definitions_of_terms (NData n ps cs ∷ ds) earlier h = definitions_of_terms ds earlier (behind_constructors cs (nwords_by nterm_words ds) earlier h)
definitions_of_terms (NNew n ps t con ∷ ds) earlier h = definitions_of_terms ds earlier h
definitions_of_terms (NFamily n ps k ∷ ds) earlier h = definitions_of_terms ds earlier h
definitions_of_terms (NAxiom n ps t u ∷ ds) earlier h = definitions_of_terms ds earlier h
definitions_of_terms (NDef n t e ∷ ds) earlier (one_word_more new rest) = one_word_more new (definitions_of_terms ds (plus n earlier) rest)
definitions_of_terms (NWrap n t e ∷ ds) earlier (one_word_more new rest) = one_word_more new (definitions_of_terms ds (plus n earlier) rest)

pub definitions_differ : {m : Module} {n : NModule} → Resolves m n → AreDistinct no_word (defined_words (ndecls_in n))
definitions_differ (resolves_module {cs = cs} rules) = definitions_of_terms cs no_word (terms_distinct rules)

pub types_differ : {m : Module} {n : NModule} → Resolves m n → HasDistinctTypes n
types_differ (resolves_module rules) = types_distinct rules
