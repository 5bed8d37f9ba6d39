-- The members of a file behind its header: declarations of a module, or items of an interface.
use Rattle.std.proofs.Common.{◌≡◌, ℕ, true, List, [], ◌∷◌, ◌++◌, codes, refl, sym, ◌∙◌, subst, append_assoc}
use Rattle.std.specs.List.{list_all}
use Rattle.fc_syntax.specs.declared.keyword.Keyword.TheVariants as word
use Rattle.fc_syntax.specs.Tree.{Word}
use Rattle.fc_syntax.proofs.Lexing.{StartsApart}
use Rattle.fc_model.specs.Words.{Tok, Open, Close, Key}
use Rattle.fc_model.specs.FileForms.{FileForm, ModuleFile, InterfaceFile, FileBody, Member, body_of, body_part, member_part}
use Rattle.fc_model.specs.Grammar.{Part, Given, Steps, ◌▸◌, Many, AName}
use Rattle.fc_model.specs.Reading.{read_steps}
use Rattle.fc_model.specs.Pieces.{Piece, piece_text, piece_toks}
use Rattle.fc_model.specs.Canonical.{hidden_text}
use Rattle.fc_model.specs.Formed.{is_word}
use Rattle.fc_printer.proofs.Lexed.{Reads, reads_close, reads_line_feed, reads_nothing, reads_space}
use Rattle.fc_printer.proofs.Printed.{IsPrintable, reads_piece}
use Rattle.fc_printer.proofs.ReadKinds.{Begins, goes_on}
use Rattle.fc_printer.proofs.ReadHeader.{GivesAt, gives_as, names_give, part_end, reads_part}

-- up to the end of the text
abbrev pub ending : List ℕ
ending = codes ")\n"

-- a piece that is a member, among others and in front of all
pub record IsMember (f : FileForm) (p : Piece) (x : Member f) : Type 0 where
  pub printable : IsPrintable p
  pub begins : (us : List Tok) → Begins (piece_toks p us)
  pub back : (us : List Tok) (q : Part) (g : Member f → Steps (Given q)) → read_steps (piece_toks p us) (member_part f ▸ g) ≡ read_steps us (g x)
  pub leads : (us : List Tok) (q : Part) (g : FileBody f → Steps (Given q))
      → read_steps (piece_toks p us) (body_part f ▸ g) ≡ read_steps (piece_toks p us) (member_part f ▸ λ y. Many (member_part f) ▸ λ ys. g (body_of f [] (y ∷ ys)))

-- members up to the end of the text, behind others and behind the header
pub record MembersAt (f : FileForm) (text : List ℕ) (xs : List (Member f)) : Type 0 where
  pub apart : StartsApart (text ++ ending)
  pub many : GivesAt (text ++ ending) (Many (member_part f)) xs []
  pub body : GivesAt (text ++ ending) (body_part f) (body_of f [] xs) []

reads_ending : Reads ending (Close ∷ [])
reads_ending = reads_close (10 ∷ []) [] (reads_line_feed [] [] reads_nothing)

body_ends : (f : FileForm) (q : Part) (g : FileBody f → Steps (Given q)) → read_steps (Close ∷ []) (body_part f ▸ g) ≡ read_steps [] (g (body_of f [] []))
body_ends ModuleFile q g = refl
body_ends InterfaceFile q g = refl

pub no_members : (f : FileForm) → MembersAt f [] []
no_members f = record {
  apart = refl;
  many = record { toks = Close ∷ []; reads = reads_ending; back = λ q g. refl };
  body = record { toks = Close ∷ []; reads = reads_ending; back = body_ends f };
}

pub more_members : (f : FileForm) (p : Piece) (x : Member f) (text : List ℕ) (xs : List (Member f)) → IsMember f p x → MembersAt f text xs → MembersAt f (codes "\n " ++ (piece_text p ++ text)) (x ∷ xs)
more_members f p x text xs m others =
    let us = others.many.toks in
    let ts = piece_toks p us in
    let rest = text ++ ending in
    let reads : Reads ((codes "\n " ++ (piece_text p ++ text)) ++ ending) ts = subst (λ y. Reads (codes "\n " ++ y) ts) (sym (append_assoc (piece_text p) text ending))
    (reads_line_feed (32 ∷ (piece_text p ++ rest)) ts (reads_space (piece_text p ++ rest) ts (reads_piece p rest us m.printable others.apart others.many.reads))) in
    record {
      apart = refl;
      many = record {
        toks = ts;
        reads = reads;
        back = λ q g. goes_on ts (m.begins us) (member_part f) q g ∙ m.back us q (λ y. Many (member_part f) ▸ λ ys. g (y ∷ ys)) ∙ others.many.back q (λ ys. g (x ∷ ys));
      };
      body = record {
        toks = ts;
        reads = reads;
        back = λ q g. m.leads us q g ∙ m.back us q (λ y. Many (member_part f) ▸ λ ys. g (body_of f [] (y ∷ ys))) ∙ others.many.back q (λ ys. g (body_of f [] (x ∷ ys)));
      };
    }

-- the hidden names stand before the members
hidden_leads : (f : FileForm) (us : List Tok) (q : Part) (g : FileBody f → Steps (Given q))
    → read_steps (Open ∷ Key word.Hidden ∷ us) (body_part f ▸ g) ≡ read_steps us (Many AName ▸ λ hidden. Many (member_part f) ▸ λ xs. g (body_of f hidden xs))
hidden_leads ModuleFile us q g = refl
hidden_leads InterfaceFile us q g = refl

pub body_gives : (f : FileForm) (hidden : List Word) (text : List ℕ) (xs : List (Member f)) → list_all is_word hidden ≡ true → MembersAt f text xs
    → GivesAt (hidden_text hidden ++ (text ++ ending)) (body_part f) (body_of f hidden xs) []
body_gives f [] text xs h m = m.body
body_gives f (w ∷ ws) text xs h m =
    let names = names_give (w ∷ ws) h (text ++ ending) m.many.toks m.many.reads in
    gives_as (part_end (codes " (hidden") (w ∷ ws) (text ++ ending))
    (record {
      toks = Open ∷ Key word.Hidden ∷ names.toks;
      reads = reads_part word.Hidden (w ∷ ws) (text ++ ending) names.toks names.reads;
      back = λ q g. hidden_leads f names.toks q g ∙ names.back q (λ hidden. Many (member_part f) ▸ λ ys. g (body_of f hidden ys)) ∙ m.many.back q (λ ys. g (body_of f (w ∷ ws) ys));
    })
