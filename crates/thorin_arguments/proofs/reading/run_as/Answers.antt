use Rattle.clap.specs.Words.{found_of, kind_of, rows_of, subcommand_rows_of}
use Rattle.std.proofs.Common.{inl, inr, sym, ◌∙◌}
use Rattle.thorin_arguments.{proofs.Matched.by_stream, specs.Asked.Refuses, specs.Asked.Shows}
use Rattle.{std.specs.Prelude.option_map, thorin_arguments.proofs.Completing.kept}
use Rattle.thorin_arguments.proofs.reading.run_as.Goals as goal

pub returns-in-Ok-read : goal.returns-in-Ok-read
returns-in-Ok-read g c = λ line are.
    let is = c.is_some-is_peer.ensures ∙ kept (λ s. s.now) c.args.peer in
    let done = rw is at c.dispatch.ensures.asked in (
      done.0,
      inr (
        rows_of (found_of c.in-Ok-read.matches),
        subcommand_rows_of c.in-Ok-read.matches,
        c.in-Ok-read.ensures (option_map (λ s. s.now) c.args.peer) (sym is) c.in-Ok.ensures line
            are,
        done.1,
      ),
      done.2,
      done.3,
    )

pub returns-in-Ok-refusal : goal.returns-in-Ok-refusal
returns-in-Ok-refusal g c = λ line are.
    let is = c.is_some-is_peer.ensures ∙ kept (λ s. s.now) c.args.peer in
    let unread = c.in-Err.ensures (option_map (λ s. s.now) c.args.peer) (sym is) c.in-Ok.ensures
    line are in (
      Refuses,
      inl (elim unread [
        | inl k ↦ let same = rw (c.kind.ensures ∙ k) at (sym c.eq.ensures ∙ c.if-eq.false) in
            absurd cc
        | inr (inl t) ↦ absurd ((by_stream c.use_stderr.result (kind_of c.in-Err.error)
            c.use_stderr.ensures).0 c.if-use_stderr.true t.0)
        | inr (inr r) ↦ r.1
      ]),
      c.refuse.ensures.status,
      c.refuse.ensures.does,
    )

pub returns : goal.returns
returns g c = λ line are.
    let is = c.is_some-is_peer.ensures ∙ kept (λ s. s.now) c.args.peer in
    let unread = c.in-Err.ensures (option_map (λ s. s.now) c.args.peer) (sym is) c.in-Ok.ensures
    line are in (
      Shows,
      inl (elim unread [
        | inl k ↦ let same = rw (c.kind.ensures ∙ k) at (sym c.eq.ensures ∙ c.if-eq.false) in
            absurd cc
        | inr (inl t) ↦ t.1
        | inr (inr r) ↦ absurd (r.0 ((by_stream c.use_stderr.result (kind_of c.in-Err.error)
            c.use_stderr.ensures).1 c.if-use_stderr.false))
      ]),
      c.show.ensures.status,
      c.show.ensures.does,
    )
