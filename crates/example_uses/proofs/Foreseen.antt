-- What an own package can be refused with, as a builder's call answers it.
use Rattle.std.proofs.Common.{Err, Ok, Result, subst}
use Rattle.std.specs.Prelude.{IfErr}
use Rattle.thorin_errors.specs.{Answers.Gives, Answers.MemoryAside, declared.error.Error.Error}
use Rattle.thorin_errors.specs.Errors.{error_of, ErrorValue}
use Rattle.thorin_join.specs.Builder.{State}
use Rattle.thorin_again.specs.OwnRefusals.{IsForeseen, UnlessForeseen}

pub foreseen : (outcome : Result (Unit {0}) Error) (new : State) (taken : Result State ErrorValue)
    → Gives (λ (x : Unit {0}). new) outcome taken → UnlessForeseen taken
    → IfErr outcome (λ e. MemoryAside e (IsForeseen (error_of e)))
foreseen (Ok x) new taken gives fine = tt
foreseen (Err e) new taken gives fine = λ aside. subst UnlessForeseen (gives aside) fine
