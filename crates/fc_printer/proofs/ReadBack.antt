-- The canonical text of a module spells the module.
use Rattle.std.proofs.Common.{◌≡◌, ℕ, true, List, [], ◌∷◌, ◌++◌, codes, refl, sym, ◌∙◌, subst}
use Rattle.std.specs.Prelude.{◌&&◌}
use Rattle.std.specs.List.{list_all}
use Rattle.std.proofs.lemmas.Bool.{and_parts}
use Rattle.fc_syntax.specs.declared.keyword.Keyword.TheVariants as word
use Rattle.fc_syntax.specs.Tree.{Word, Decl, DData, Module, ModuleOf}
use Rattle.fc_syntax.specs.Tokens.{is_module_name}
use Rattle.fc_model.specs.Words.{Tok, Open, Key}
use Rattle.fc_model.specs.FileForms.{ModuleFile}
use Rattle.fc_model.specs.Grammar.{Part, Given, Steps, gives, ◌▸◌, Many, ADeclaration, ABody, AModule, Body, BodyOf, HeaderOf, module_from}
use Rattle.fc_model.specs.Reading.{Got, read_part, read_steps}
use Rattle.fc_model.specs.Texts.{Spells, SpellsPart}
use Rattle.fc_model.specs.Pieces.{piece_toks}
use Rattle.fc_model.specs.Spelling.{decl_piece}
use Rattle.fc_model.specs.Canonical.{canonical, decls_text, header_text}
use Rattle.fc_model.specs.Formed.{IsFormed, is_decl_formed, is_word}
use Rattle.fc_printer.proofs.Lexed.{reads_open, reads_space, reads_word}
use Rattle.fc_printer.proofs.FormWords.{key_word}
use Rattle.fc_printer.proofs.LeavesOfForms.{decl_leaves}
use Rattle.fc_printer.proofs.ReadKinds.{Begins}
use Rattle.fc_printer.proofs.ReadDecls.{decl_back}
use Rattle.fc_printer.proofs.ReadHeader.{GivesAt, header_gives}
use Rattle.fc_printer.proofs.ReadMembers.{IsMember, MembersAt, body_gives, ending, more_members, no_members}

-- declarations
pub decl_begins : (d : Decl) (us : List Tok) → Begins (piece_toks (decl_piece d) us)
decl_begins (DData n ps cs) us = tt
decl_begins d us = tt

decl_leads : (d : Decl) (us : List Tok) (q : Part) (f : Body Decl → Steps (Given q))
    → read_steps (piece_toks (decl_piece d) us) (ABody ▸ f) ≡ read_steps (piece_toks (decl_piece d) us) (ADeclaration ▸ λ d. Many ADeclaration ▸ λ ds. f (BodyOf [] (d ∷ ds)))
decl_leads (DData n ps cs) us q f = refl
decl_leads d us q f = refl

decl_member : (d : Decl) → is_decl_formed d ≡ true → IsMember ModuleFile (decl_piece d) d
decl_member d h = record { printable = decl_leaves d h; begins = decl_begins d; back = decl_back d h; leads = decl_leads d }

decls_give : (ds : List Decl) → list_all is_decl_formed ds ≡ true → MembersAt ModuleFile (decls_text ds) ds
decls_give [] h = no_members ModuleFile
decls_give (d ∷ ds) h =
    let p = and_parts (is_decl_formed d) (list_all is_decl_formed ds) h in
    more_members ModuleFile (decl_piece d) d (decls_text ds) ds (decl_member d p.0) (decls_give ds p.1)

module_gives : (m : Word) (imports exports hidden : List Word) (ds : List Decl) → IsFormed (ModuleOf m imports exports hidden ds)
    → GivesAt (canonical (ModuleOf m imports exports hidden ds)) AModule (ModuleOf m imports exports hidden ds) []
module_gives m imports exports hidden ds formed =
    let parts = and_parts (is_module_name m && list_all is_module_name imports) ((list_all is_word exports && list_all is_word hidden) && list_all is_decl_formed ds) formed in
    let lists = and_parts (list_all is_word exports && list_all is_word hidden) (list_all is_decl_formed ds) parts.1 in
    let words = and_parts (list_all is_word exports) (list_all is_word hidden) lists.0 in
    let body = body_gives ModuleFile hidden (decls_text ds) ds words.1 (decls_give ds lists.1) in
    let header = header_gives m imports exports hidden ds formed (decls_text ds ++ ending) body.toks body.reads in
    let text = header_text (ModuleOf m imports exports hidden ds) ++ (decls_text ds ++ ending) in
    record {
      toks = Open ∷ Key word.Module ∷ header.toks;
      reads = reads_open (codes "module " ++ text) (Key word.Module ∷ header.toks)
          (reads_word (codes "module") (32 ∷ text) (Key word.Module) header.toks (key_word word.Module) refl (reads_space text header.toks header.reads));
      back = λ q f. header.back q (λ h. ABody ▸ λ b. f (module_from h b)) ∙ body.back q (λ b. f (module_from (HeaderOf m imports exports) b));
    }

-- a text of what a part gives, up to its end
pub spelled : (p : Part) (text : List ℕ) (x : Given p) → GivesAt text p x [] → SpellsPart p text x
spelled p text x b =
    let r = b.reads 0 in
    record { lexemes = r.lexemes; lexed = r.is; parsed = subst (λ ts. read_part p ts ≡ Got x []) (sym r.toks) (b.back p (λ y. gives y)) }

pub canonical_spells : (m : Module) → IsFormed m → Spells (canonical m) m
canonical_spells (ModuleOf m imports exports hidden ds) formed = spelled AModule _ _ (module_gives m imports exports hidden ds formed)
