-- The header of a file, behind its first words.
use Rattle.std.proofs.Common.{◌≡◌, ℕ, suc, Bool, true, false, List, [], ◌∷◌, ◌++◌, length, codes, refl, sym, ◌∙◌, ap, subst, append_assoc, Some, None, if◌then◌else◌}
use Rattle.std.specs.Prelude.{◌&&◌, ◌||◌, is_none}
use Rattle.std.specs.List.{list_all, list_any}
use Rattle.std.proofs.lemmas.Bool.{and_parts, and_from}
use Rattle.fc_syntax.specs.declared.keyword.Keyword.TheVariants as word
use Rattle.fc_syntax.specs.Keywords.{keyword_text}
use Rattle.fc_syntax.specs.Tree.{Word, Decl, ModuleOf}
use Rattle.fc_syntax.specs.Tokens.{is_dot, is_lower_name, is_module_name, is_module_part, is_plain_name, is_upper_name}
use Rattle.fc_syntax.proofs.Lexing.{StartsApart}
use Rattle.fc_model.specs.Words.{Tok, Open, Close, Key, Lower, Upper, UpperOf, keyword_of}
use Rattle.fc_model.specs.Grammar.{Part, Given, Steps, gives, ◌▸◌, and_then, Many, AnOpen, AWord, AName, AModuleName, Header, HeaderOf}
use Rattle.fc_model.specs.Reading.{Outcome, Stuck, read_steps}
use Rattle.fc_model.specs.Canonical.{header_text, hidden_text, part_text, words_text}
use Rattle.fc_model.specs.Formed.{IsFormed, is_decl_formed, is_word}
use Rattle.fc_printer.proofs.Lexed.{IsWord, Reads, reads_close, reads_open, reads_space, reads_word}
use Rattle.fc_printer.proofs.FormWords.{key_word}
use Rattle.fc_printer.proofs.ModuleNames.{cut_last, module_part, module_parts}
use Rattle.fc_printer.proofs.Names.{lower_word, part_is_word, upper_in_word, upper_word}
use Rattle.fc_printer.proofs.ReadKinds.{Begins, goes_on}

-- a text of what a part gives, before other tokens
pub record GivesAt (text : List ℕ) (p : Part) (x : Given p) (us : List Tok) : Type 0 where
  pub toks : List Tok
  pub reads : Reads text toks
  pub back : (q : Part) (f : Given p → Steps (Given q)) → read_steps toks (p ▸ f) ≡ read_steps us (f x)

pub gives_as : {a b : List ℕ} {p : Part} {x : Given p} {us : List Tok} → a ≡ b → GivesAt b p x us → GivesAt a p x us
gives_as {p = p} {x = x} {us = us} e h = subst (λ y. GivesAt y p x us) (sym e) h

-- a word that is a part by itself
record Leads (p : Part) (w : List ℕ) (x : Given p) : Type 0 where
  tok : Tok
  is : IsWord w tok
  begins : (ts : List Tok) → Begins (tok ∷ ts)
  back : (ts : List Tok) (q : Part) (f : Given p → Steps (Given q)) → read_steps (tok ∷ ts) (p ▸ f) ≡ read_steps ts (f x)

name_by : (w : Word) (l : Bool) → is_lower_name w ≡ l → (l || is_upper_name w) ≡ true → is_none (keyword_of w) ≡ true → Leads AName w w
name_by w true e h k = record { tok = Lower w; is = lower_word w (and_from (is_lower_name w) (is_none (keyword_of w)) e k); begins = λ ts. tt; back = λ ts q f. refl }
name_by w false e h k = record { tok = Upper w; is = upper_word w (and_from (is_upper_name w) (is_none (keyword_of w)) h k); begins = λ ts. tt; back = λ ts q f. refl }

name_leads : (w : Word) → is_word w ≡ true → Leads AName w w
name_leads w h = let p = and_parts (is_plain_name w) (is_none (keyword_of w)) h in name_by w (is_lower_name w) refl p.0 p.1

module_back : (w v : Word) → is_module_part w ≡ true → (ts : List Tok) (q : Part) (f : Word → Steps (Given q))
    → elim (if is_module_part w then Some (gives v) else None) as (λ _. Outcome (Given q)) [ None ↦ Stuck (suc (length ts)) | Some st ↦ read_steps ts (and_then st f) ] ≡ read_steps ts (f v)
module_back w v h ts q f =
    ap (λ b. elim (if b then Some (gives v) else None) as (λ _. Outcome (Given q)) [ None ↦ Stuck (suc (length ts)) | Some st ↦ read_steps ts (and_then st f) ]) h

module_by : (w : Word) (d : Bool) → list_any is_dot w ≡ d → is_module_name w ≡ true → Leads AModuleName w w
module_by w false e h =
    let part = module_part w h e in
    record { tok = Upper w; is = upper_word w (part_is_word w part); begins = λ ts. tt; back = λ ts q f. module_back w w part ts q f }
module_by w true e h =
    let c = cut_last w e in
    let parts = module_parts c.front c.last (sym (ap is_module_name c.whole) ∙ h) c.rest in
    record {
      tok = UpperOf c.front c.last;
      is = subst (λ x. IsWord x (UpperOf c.front c.last)) (sym c.whole) (upper_in_word c.front c.last parts.0 (part_is_word c.last parts.1));
      begins = λ ts. tt;
      back = λ ts q f. module_back c.last (c.front ++ 46 ∷ c.last) parts.1 ts q f ∙ ap (λ x. read_steps ts (f x)) (sym c.whole);
    }

module_leads : (w : Word) → is_module_name w ≡ true → Leads AModuleName w w
module_leads w h = module_by w (list_any is_dot w) refl h

-- lists of names
words_apart : (ws : List Word) (text : List ℕ) → StartsApart (words_text ws ++ (41 ∷ text))
words_apart [] text = refl
words_apart (w ∷ ws) text = refl

pub names_give : (ws : List Word) → list_all is_word ws ≡ true → (text : List ℕ) (us : List Tok) → Reads text us → GivesAt (words_text ws ++ (41 ∷ text)) (Many AName) ws us
names_give [] h text us r = record { toks = Close ∷ us; reads = reads_close text us r; back = λ q f. refl }
names_give (w ∷ ws) h text us r =
    let p = and_parts (is_word w) (list_all is_word ws) h in
    let l = name_leads w p.0 in
    let others = names_give ws p.1 text us r in
    gives_as (ap (λ x. 32 ∷ x) (append_assoc w (words_text ws) (41 ∷ text)))
    (record {
      toks = l.tok ∷ others.toks;
      reads = reads_space (w ++ (words_text ws ++ (41 ∷ text))) (l.tok ∷ others.toks) (reads_word w (words_text ws ++ (41 ∷ text)) l.tok others.toks l.is (words_apart ws text) others.reads);
      back = λ q f. goes_on (l.tok ∷ others.toks) (l.begins others.toks) AName q f ∙ l.back others.toks q (λ x. Many AName ▸ λ xs. f (x ∷ xs)) ∙ others.back q (λ xs. f (w ∷ xs));
    })

modules_give : (ws : List Word) → list_all is_module_name ws ≡ true → (text : List ℕ) (us : List Tok) → Reads text us → GivesAt (words_text ws ++ (41 ∷ text)) (Many AModuleName) ws us
modules_give [] h text us r = record { toks = Close ∷ us; reads = reads_close text us r; back = λ q f. refl }
modules_give (w ∷ ws) h text us r =
    let p = and_parts (is_module_name w) (list_all is_module_name ws) h in
    let l = module_leads w p.0 in
    let others = modules_give ws p.1 text us r in
    gives_as (ap (λ x. 32 ∷ x) (append_assoc w (words_text ws) (41 ∷ text)))
    (record {
      toks = l.tok ∷ others.toks;
      reads = reads_space (w ++ (words_text ws ++ (41 ∷ text))) (l.tok ∷ others.toks) (reads_word w (words_text ws ++ (41 ∷ text)) l.tok others.toks l.is (words_apart ws text) others.reads);
      back = λ q f. goes_on (l.tok ∷ others.toks) (l.begins others.toks) AModuleName q f ∙ l.back others.toks q (λ x. Many AModuleName ▸ λ xs. f (x ∷ xs)) ∙ others.back q (λ xs. f (w ∷ xs));
    })

-- a part of the header and what follows it
pub part_end : (opening : List ℕ) (ws : List Word) (text : List ℕ) → part_text opening ws ++ text ≡ opening ++ (words_text ws ++ (41 ∷ text))
part_end opening ws text = append_assoc opening (words_text ws ++ codes ")") text ∙ ap (λ x. opening ++ x) (append_assoc (words_text ws) (codes ")") text)

-- a part of the header behind a space
pub reads_part : (k : _) (ws : List Word) (text : List ℕ) (us : List Tok) → Reads (words_text ws ++ (41 ∷ text)) us → Reads (32 ∷ 40 ∷ (keyword_text k ++ (words_text ws ++ (41 ∷ text)))) (Open ∷ Key k ∷ us)
reads_part k ws text us r =
    let inner = words_text ws ++ (41 ∷ text) in
    reads_space (40 ∷ (keyword_text k ++ inner)) (Open ∷ Key k ∷ us) (reads_open (keyword_text k ++ inner) (Key k ∷ us) (reads_word (keyword_text k) inner (Key k) us (key_word k) (words_apart ws text) r))

header_end : (m : Word) (imports exports : List Word) (h tail : List ℕ) → (m ++ (part_text (codes " (imports") imports ++ (part_text (codes " (exports") exports ++ h))) ++ tail
    ≡ m ++ (codes " (imports" ++ (words_text imports ++ (41 ∷ (codes " (exports" ++ (words_text exports ++ (41 ∷ (h ++ tail)))))))
header_end m imports exports h tail =
    let p1 = part_text (codes " (imports") imports in
    let p2 = part_text (codes " (exports") exports in
    append_assoc m (p1 ++ (p2 ++ h)) tail
    ∙ ap (λ x. m ++ x) (append_assoc p1 (p2 ++ h) tail ∙ part_end (codes " (imports") imports ((p2 ++ h) ++ tail)
    ∙ ap (λ x. codes " (imports" ++ (words_text imports ++ (41 ∷ x))) (append_assoc p2 h tail ∙ part_end (codes " (exports") exports (h ++ tail)))

-- what a file wants behind its first words, up to the names that it exports
abbrev pub header_steps : (q : Part) → (Header → Steps (Given q)) → Steps (Given q)
header_steps q f = AModuleName ▸ λ m. AnOpen ▸ λ _. AWord word.Imports ▸ λ _. Many AModuleName ▸ λ imports. AnOpen ▸ λ _. AWord word.Exports ▸ λ _. Many AName ▸ λ exports. f (HeaderOf m imports exports)

-- a text of a header behind its first words, before other tokens
pub record HeaderAt (text : List ℕ) (h : Header) (us : List Tok) : Type 0 where
  pub toks : List Tok
  pub reads : Reads text toks
  pub back : (q : Part) (f : Header → Steps (Given q)) → read_steps toks (header_steps q f) ≡ read_steps us (f h)

pub header_gives : (m : Word) (imports exports hidden : List Word) (ds : List Decl) → IsFormed (ModuleOf m imports exports hidden ds) → (tail : List ℕ) (us : List Tok) → Reads (hidden_text hidden ++ tail) us
    → HeaderAt (header_text (ModuleOf m imports exports hidden ds) ++ tail) (HeaderOf m imports exports) us
header_gives m imports exports hidden ds formed tail us r =
    let parts = and_parts (is_module_name m && list_all is_module_name imports) ((list_all is_word exports && list_all is_word hidden) && list_all is_decl_formed ds) formed in
    let modules = and_parts (is_module_name m) (list_all is_module_name imports) parts.0 in
    let lists = and_parts (list_all is_word exports && list_all is_word hidden) (list_all is_decl_formed ds) parts.1 in
    let words = and_parts (list_all is_word exports) (list_all is_word hidden) lists.0 in
    let rest = hidden_text hidden ++ tail in
    let exported = names_give exports words.0 rest us r in
    let second = codes " (exports" ++ (words_text exports ++ (41 ∷ rest)) in
    let imported = modules_give imports modules.1 second (Open ∷ Key word.Exports ∷ exported.toks) (reads_part word.Exports exports rest exported.toks exported.reads) in
    let first = codes " (imports" ++ (words_text imports ++ (41 ∷ second)) in
    let named = module_leads m modules.0 in
    let behind = Open ∷ Key word.Imports ∷ imported.toks in
    subst (λ x. HeaderAt x (HeaderOf m imports exports) us) (sym (header_end m imports exports (hidden_text hidden) tail))
    (record {
      toks = named.tok ∷ behind;
      reads = reads_word m first named.tok behind named.is refl (reads_part word.Imports imports second imported.toks imported.reads);
      back = λ q f.
          named.back behind q (λ m. AnOpen ▸ λ _. AWord word.Imports ▸ λ _. Many AModuleName ▸ λ imports. AnOpen ▸ λ _. AWord word.Exports ▸ λ _. Many AName ▸ λ exports. f (HeaderOf m imports exports))
          ∙ imported.back q (λ imports. AnOpen ▸ λ _. AWord word.Exports ▸ λ _. Many AName ▸ λ exports. f (HeaderOf m imports exports)) ∙ exported.back q (λ exports. f (HeaderOf m imports exports));
    })
