-- A package builder over a session.
use Rattle.thorin_join.specs.Builder.{State}

pub record Building (Sess : Type 0) : Type 0 where
  pub session : Sess
  pub state : State
