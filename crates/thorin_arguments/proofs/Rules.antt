-- What building a command line keeps of its words, in clap's terms.
use Rattle.clap.proofs.{OnLiterals.clap_on_literals, SimpleLemmas.is_false, WalkLemmas.both}
use Rattle.clap.specs.Words.{AddsArg, AddsSubcommand, App, app_of, rule_of, Shape, with_subcommand}
use Rattle.clap.specs.declared.builder.{arg.Arg.Arg, command.Command.Command}
use Rattle.clap.specs.{Simple.new_shape, Walk.is_empty, Walk.Rule, Walk.Text, Words.with_rule}
use Rattle.std.proofs.Common.{ap, ap₂, Bool, List, refl, sym, true, ℕ, ◌&&◌, ◌∷◌, ◌≡◌}
use Rattle.std.proofs.Common.{drop, false, is_some, length, map, not, take, [], ◌++◌, ◌+◌, ◌<◌, ◌∙◌}
use Rattle.std.proofs.lemmas.List.{map-append, Sums.fold-append, take-map, take_more}
use Rattle.std.specs.{Borrow.Bor, Prelude.codes, Prelude.filter_map, Prelude.fold}
use Rattle.thorin_arguments.specs.Grammar.{command, long_names, peer, peer_words, thorin}
use Rattle.thorin_arguments.specs.Rules.{app_in, app_of_words, AreLongNames, ArePeerWords, shape_in}
use Rattle.thorin_arguments.specs.{declared.command.Line.Line, Rules.rule_in, Whole.is_of_llvm}
use Rattle.{std.proofs.Math.ListN.get_or, thorin_arguments.specs.declared.command.Word.Word}
use Rattle.thorin_arguments.specs.declared.command.Word.TheVariants as words

last-of-ten : (a b c d e f g h i j : Bool)
    → (a && (b && (c && (d && (e && (f && (g && (h && (i && j))))))))) ≡ true → j ≡ true
last-of-ten a b c d e f g h i j x =
    let p = both a (b && (c && (d && (e && (f && (g && (h && (i && j)))))))) x in
    let q = both b (c && (d && (e && (f && (g && (h && (i && j))))))) p.1 in
    let r = both c (d && (e && (f && (g && (h && (i && j)))))) q.1 in
    let s = both d (e && (f && (g && (h && (i && j))))) r.1 in
    let t = both e (f && (g && (h && (i && j)))) s.1 in
    let u = both f (g && (h && (i && j))) t.1 in
    let v = both g (h && (i && j)) u.1 in
    let w = both h (i && j) v.1 in
    (both i j w.1).1

-- a simple argument isn't global
local : (x : Arg) → (rule_of x).is_simple ≡ true → x.global ≡ false
local x e = is_false x.global (last-of-ten (is_empty x.overrides.items)
    (is_empty x.default_vals_ifs.items) (is_empty x.groups.items) (not (is_some x.val_delim))
    (not (is_some x.terminator)) (not x.allow_hyphen_values) (not x.allow_negative_numbers)
    (not x.require_equals) (not x.last) (not x.global) e)

simple : (word : Word) → (rule_in word).is_simple ≡ true
simple words.Output = refl
simple _ = refl

-- a word more
pub add_word : (name : Text) (words : List Word) (i : ℕ) (none : Word) (c d : Command) (x : Arg)
    → i < length words → app_of c ≡ app_of_words name (take i words) → AddsArg c x d
    → rule_of x ≡ rule_in (get_or words i none) → app_of d ≡ app_of_words name (take (i + 1) words)
add_word name words i none c d x lt so_far h same =
    h.shape (local x (ap (λ r. r.is_simple) same ∙ simple (get_or words i none)))
    ∙ (ap₂ with_rule so_far same ∙ ap (λ l. record { top = command name l; subs = [] })
    (sym (map-append rule_in (take i words) (get_or words i none ∷ []))
    ∙ ap (map rule_in) (sym (take_more words i none lt))))

-- commands that are added in turn
abbrev pub added : App → List Line → App
added a lines = fold with_subcommand a (map shape_in lines)

-- a command more
pub add_line : (a : App) (lines : List Line) (i : ℕ) (none : Line) (c d own : Command)
    → i < length lines → app_of c ≡ added a (take i lines) → AddsSubcommand c own d
    → app_of own ≡ app_in (get_or lines i none) → app_of d ≡ added a (take (i + 1) lines)
unfolding shape_in
add_line a lines i none c d own lt so_far h same =
    let shape = ap (λ (a : App). a.top) same in
    let plain = ap (λ (s : Shape). s.is_plain) shape in
    let local = is_false _ (both _ _ (both _ _ (both _ _ plain).1).1).0 in
    h.shape local ∙ (ap₂ with_subcommand so_far shape
    ∙ (sym (fold-append with_subcommand a (map shape_in (take i lines))
    (shape_in (get_or lines i none) ∷ []))
    ∙ ap (fold with_subcommand a) (sym (map-append shape_in (take i lines)
    (get_or lines i none ∷ [])) ∙ ap (map shape_in) (sym (take_more lines i none lt)))))

-- the program's own line, and those of its commands behind it
pub first_line : (lines : List Line) (none : Line) (which : Bor (List (Bor Text)))
    → map shape_in lines ≡ command (codes "thorin") [] ∷ (thorin which).subs
    → app_in (get_or lines 0 none) ≡ app_of_words (codes "thorin") []
unfolding shape_in
first_line [] none which is = absurd cc
first_line (own ∷ parts) none which is =
    ap (λ (shapes : List Shape). record { top = get_or shapes 0 (new_shape []); subs = [] }) is

pub other_lines : (lines : List Line) (which : Bor (List (Bor Text)))
    → map shape_in lines ≡ command (codes "thorin") [] ∷ (thorin which).subs
    → map shape_in (take 4 (drop 1 lines)) ≡ (thorin which).subs
unfolding thorin
other_lines [] which is = absurd cc
other_lines (own ∷ parts) which is = sym (take-map shape_in 4 parts)
    ∙ ap (λ (shapes : List Shape). take 4 (drop 1 shapes)) is

-- ---- a peer

abbrev pub longs : List Rule → List Text
longs rules = filter_map (λ rule. rule.long) rules

-- the names that a peer's grammar has: those of its words, whatever the values of these are
pub are_long_names : (name : Text) (list : List Word) (own names : List Text)
    → ArePeerWords (is_of_llvm name) list → own ≡ longs (map rule_in list)
    → names ≡ own ++ codes "help" ∷ codes "version" ∷ [] → AreLongNames name names
unfolding clap_on_literals peer
are_long_names name list own names (kinds, manners, _, _, rules) has is app
    (which, how, _, _, app_is) =
    let same = elim (is_of_llvm name) as (λ b. long_names (peer name b which how)
    ≡ longs (peer_words b kinds manners) ++ codes "help" ∷ codes "version" ∷ [])
    [ true ↦ refl | false ↦ refl ] in
    is ∙ (ap (λ l. l ++ codes "help" ∷ codes "version" ∷ []) (has ∙ ap longs rules)
    ∙ (sym same ∙ ap long_names (sym app_is)))
