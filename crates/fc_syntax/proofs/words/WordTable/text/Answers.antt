use Rattle.std.proofs.Common.{◌≡◌, IfOk, ℕ, List, sym, subst}
use Rattle.std.specs.Rc.{rc_str_bytes}
use Rattle.fc_syntax.proofs.WordTables.{found_word}
use Rattle.fc_syntax.proofs.words.WordTable.text.Goals as goal

pub returns-in-Some : goal.returns-in-Some
returns-in-Some c =
    let same : c.args.word.now ≡ rc_str_bytes c.in-Some.known.now = found_word rc_str_bytes c.args.word.now c.args.self.now.words.keys c.in-Some.known.now (sym c.in-Some.ensures.key) in
    subst (λ (z : List ℕ). IfOk c.sharing.result (λ t. t ≡ z)) (sym same) c.sharing.ensures
