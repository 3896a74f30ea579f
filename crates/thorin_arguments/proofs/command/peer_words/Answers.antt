use Rattle.std.proofs.Common.{codes, List, refl, [], ◌∷◌}
use Rattle.{clap.specs.Walk.Text, std.specs.Borrow.Bor}
use Rattle.thorin_arguments.proofs.command.peer_words.Goals as goal

abbrev text_at_none : Text → Bor Text
text_at_none text = record { ref_ptr = (0, 0); now = text }

-- what LLVM's option takes, where there is none
abbrev manners : Bor (List (Bor Text))
manners = record {
  ref_ptr = (0, 0);
  now = text_at_none (codes "continue") ∷ text_at_none (codes "soft-stop") ∷ [];
}

pub returns-then-of_llvm : goal.returns-then-of_llvm
returns-then-of_llvm c = rw c.if-of_llvm.true (_, _, refl, refl, refl)

pub returns-else-of_llvm : goal.returns-else-of_llvm
returns-else-of_llvm c = rw c.if-of_llvm.false (_, manners, refl, refl, refl)
