use Rattle.std.proofs.Common.{rules, arith, refl, ◌∙◌}
use Rattle.thorin_words.specs.Responses.{words_in}
use Rattle.thorin_words.proofs.Standing.{begin, onward, ended, stopped_at, filed, refused}
use Rattle.thorin_words.proofs.Standing.{itself, named, restored, spoilt, unread}
use Rattle.thorin_words.proofs.responses.+responses.Goals as goal

pub add_text-loop-word-init : goal.add_text-loop-word-init
add_text-loop-word-init g t c =
    record { within = omega arith; fewer = omega arith; same = refl; read = begin }

pub add_text-returns-in-Err-clause-read : goal.add_text-returns-in-Err-clause-read
add_text-returns-in-Err-clause-read g t c =
    let next = rw c.in-Some.is at c.in_ok-end.ensures in
    let split = rw (← c.as_slice.ensures.value) at next.2 in
    spoilt c.loop-word.invariant.read split c.loop-word.invariant.same c.in-Err.ensures.cases.0

pub add_text-returns-in_err-left-clause-read : goal.add_text-returns-in_err-left-clause-read
add_text-returns-in_err-left-clause-read g t c =
    let next = rw c.in-Some.is at c.in_ok-end.ensures in
    let split = rw (← c.as_slice.ensures.value, ← c.in-Ok.ensures.cases.0) at next.2 in
    let stop = stopped_at c.loop-word.invariant.read split c.loop-word.invariant.same
    c.in_err-left.field-0.0 c.in_err-left.ensures.read in
    search rules

pub add_text-loop-word-preserved : goal.add_text-loop-word-preserved
add_text-loop-word-preserved g t c =
    let next = rw c.in-Some.is at c.in_ok-end.ensures in
    let split = rw (← c.as_slice.ensures.value, ← c.in-Ok.ensures.cases.0) at next.2 in
    record {
      within = next.1;
      fewer = omega (arith, c.in_ok-left.ensures.files, c.loop-word.invariant.fewer);
      same = c.in_ok-left.ensures.names ∙ c.loop-word.invariant.same;
      read = onward c.loop-word.invariant.read split c.loop-word.invariant.same _ _
          c.in_ok-left.ensures.read;
    }

pub add_text-returns-clause-read : goal.add_text-returns-clause-read
add_text-returns-clause-read g t c = ended c.loop-word.invariant.read (search rules)

pub add_word-returns-in_err-open_word-clause-read :
    goal.add_word-returns-in_err-open_word-clause-read
add_word-returns-in_err-open_word-clause-read g t c = λ rest.
    let stop = refused (g.F.ResponseFiles.offer c.args.files.now)
    (g.F.ResponseFiles.fails c.args.files.now) (words_in c.args.names.now) c.args.word.now
    c.args.left c.in_err-open_word.field-0.0 (rw c.as_slice.ensures.value at
    c.in_err-open_word.ensures) rest in
    search rules

pub add_word-returns-in_err-left-in-None-clause-read :
    goal.add_word-returns-in_err-left-in-None-clause-read
add_word-returns-in_err-left-in-None-clause-read g t c = λ rest.
    let stop = unread (g.F.ResponseFiles.offer c.args.files.now)
    (g.F.ResponseFiles.fails c.args.files.now) (words_in c.args.names.now) c.args.word.now
    c.args.left (rw c.in-None.is at c.in_ok-open_word.ensures) c.in_err-left-in-None.field-0.0
    c.in_err-left-in-None.ensures.cause rest in
    search rules

pub add_word-returns-in_ok-push-in-None-clause-read :
    goal.add_word-returns-in_ok-push-in-None-clause-read
add_word-returns-in_ok-push-in-None-clause-read g t c =
    itself _ _ _ _ _ _ _ _ (rw c.in-None.is at c.in_ok-open_word.ensures) (grind (arith, named))
    c.in_ok-left-in-None.ensures.files c.in_ok-left-in-None.ensures.bytes

pub add_word-returns-in_ok-push-in-Some-clause-read :
    goal.add_word-returns-in_ok-push-in-Some-clause-read
add_word-returns-in_ok-push-in-Some-clause-read g t c =
    let opens = rw (c.in-Some.is, c.as_slice.ensures.value) at c.in_ok-open_word.ensures in
    let more = named c.args.names.now c.push-in-Some.new.self c.in-Some.name
    c.in_ok-push-in-Some.ensures.items in
    filed _ _ _ _ _ _ _ _ opens.0 opens.1 opens.2 opens.3 opens.4 opens.5 _ _ _
    (rw (more, c.as_slice-in-Some.ensures.value) at c.add_text-result.ensures.read)

pub add_word-returns-in_ok-push-in-Some-clause-names :
    goal.add_word-returns-in_ok-push-in-Some-clause-names
add_word-returns-in_ok-push-in-Some-clause-names g t c =
    let more = named c.args.names.now c.push-in-Some.new.self c.in-Some.name
    c.in_ok-push-in-Some.ensures.items in grind (arith, restored, more)
