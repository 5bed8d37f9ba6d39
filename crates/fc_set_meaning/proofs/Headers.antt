-- What is left of a module, what it is headed anew as, and what is told of that: its name, its exports and its declarations.
use Rattle.std.proofs.Common.{◌≡◌, Bool, List, refl, ap}
use Rattle.fc_syntax.specs.Tree.{Word}
use Rattle.fc_model.specs.Headers.{ndecls_in}
use Rattle.fc_model.specs.Nameless.{NModule, NModuleOf}
use Rattle.fc_model.specs.Stepping.{Program}
use Rattle.fc_reaching.specs.Numbering.{word_of}
use Rattle.fc_rows.specs.Telling.{told_module}
use Rattle.fc_kept_meaning.specs.MeaningKept.{with_module}
use Rattle.fc_replay_types.specs.ReplaysKept.{with_declarations}
use Rattle.fc_set_types.specs.SetsReplayed.{IsHeadedFrom, headed}

abbrev pub exports_in : NModule → List Word
exports_in (NModuleOf m imports exports hidden ds) = exports

-- UNDER ONE HEADER

pub header_word : (n k : NModule) → k ≡ with_declarations (ndecls_in k) n → word_of k ≡ word_of n
header_word (NModuleOf m imports exports hidden ds) k h = ap word_of h

pub header_exports : (n k : NModule) → k ≡ with_declarations (ndecls_in k) n → exports_in k ≡ exports_in n
header_exports (NModuleOf m imports exports hidden ds) k h = ap exports_in h

-- HEADED ANEW

pub headed_word : {left k : NModule} → IsHeadedFrom left k → word_of k ≡ word_of left
headed_word (headed keeps mentions hides) = refl

pub headed_exports : {left k : NModule} → IsHeadedFrom left k → exports_in k ≡ exports_in left
headed_exports (headed keeps mentions hides) = refl

pub headed_decls : {left k : NModule} → IsHeadedFrom left k → ndecls_in k ≡ ndecls_in left
headed_decls (headed keeps mentions hides) = refl

pub headed_program : {left k : NModule} → IsHeadedFrom left k → (P : Program) → with_module left P ≡ with_module k P
headed_program (headed keeps mentions hides) P = refl

-- TOLD

pub told_word : (bs : List Bool) (k : NModule) → word_of (told_module bs k) ≡ word_of k
told_word bs (NModuleOf m imports exports hidden ds) = refl
