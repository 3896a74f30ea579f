-- The names that proofs of this crate cite most, passed on from one place. Declares nothing.
pub use Rattle.dwp_bytes.specs.Input.{front, Goes, Input}
pub use Rattle.dwp_bytes.specs.declared.error.ReadError.{ReadError, TheVariants.UnexpectedEof}
pub use Rattle.dwp_units.specs.Units.{Unit}
pub use Rattle.std.proofs.Common.{Bool, cond, drop, false, is_err, length, List, ne_eqb, refl, take}
pub use Rattle.std.proofs.Common.{ap, Ok, rules, [], ℕ, ◌&&◌, ◌++◌, ◌∷◌, ◌≡◌, ◌≤◌}
pub use Rattle.std.proofs.Common.{append-nil, length-append, length-drop, length-take-le, ltb-false}
pub use Rattle.std.proofs.Common.{append_assoc, arith, flat_map, Result, take-add, take-append-drop}
pub use Rattle.std.proofs.Common.{eqb, Err, leb, ltb, map, suc, sym, true, zero, ◌+◌, ◌-◌, ◌<◌, ◌∙◌}
pub use Rattle.std.proofs.lemmas.List.{drop-take, nil_from_length}
pub use Rattle.{dwp_bytes.specs.declared.encoding.Format.Format, dwp_base.specs.Reading.◌>>=◌}
unfoldable pub use Rattle.dwp_bytes.specs.Input.{skip_at, split_at}
