-- What the program did of its words.
use Rattle.std.proofs.Common.{Bool, inl, List, subst, sym, [], ℕ, ◌∷◌, ◌≡◌}
use Rattle.std.specs.Prelude.{Ok, Option}
use Rattle.thorin_arguments.specs.{Asked.Call, Asked.IsCallOf, Asked.IsStatusOf, Peers.is_peer}
use Rattle.thorin_cli.specs.Doing.{DoesCall, Runs, State, System}
use Rattle.thorin_words.specs.{declared.responses.ResponseError.ResponseError, Responses.Stands}
use Rattle.{clap.specs.Walk.Text, thorin_cli.specs.declared.system.ProgramManner.ProgramManner}

module _ {F O E : Type 0} (system : System F O E) (text : Text → Option Text → Type 0)
    (fails : Text → ResponseError → Type 0) (on_terminal : Bool) (program : Text)
    (line own words : List Text) (whole : Text × List Text)
    (old new : State F O E) (status : ℕ) (manner : ProgramManner) (files : F) (out : O) (err : E)
    (Files Out Error : Type 0) where
  -- one call was made, and the files and streams that it left are those that are there now
  pub ran : (program, line) ≡ whole → words ≡ program ∷ own → Stands text [] line (Ok own)
      → manner ≡ record { of_peer = is_peer program; on_terminal = on_terminal }
      → ((call : Call) × IsCallOf words call × IsStatusOf call status
      × ((Files × Out × Error) × DoesCall system manner old call status new))
      → (Files → files ≡ new.files) → (Out → out ≡ new.out) → (Error → err ≡ new.err)
      → Runs system text fails on_terminal whole old status
      (record { files = files; out = out; err = err })
  ran named is stands manner_is (call, asks, has, ((f, o, e), does)) left_files left_out left_err =
      subst (λ line. Runs system text fails on_terminal line old status
      (record { files = files; out = out; err = err })) named (inl (
        own,
        stands,
        (
          call,
          rw is at asks,
          has,
          rw (manner_is, sym (left_files f), sym (left_out o), sym (left_err e)) at does,
        ),
      ))
