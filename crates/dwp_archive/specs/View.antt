-- What the values of this crate stand for.
use Rattle.std.specs.Prelude.{List, [], ◌∷◌, ℕ, Option, Some, None}
use Rattle.dwp_archive.specs.declared.reading.Entry as declared_entry
use Rattle.dwp_archive.specs.declared.member.Member as declared
use Rattle.dwp_archive.specs.declared.member.NameForm.{NameForm}
use Rattle.dwp_archive.specs.declared.member.NameForm.TheVariants.{Short, Long, Own}
use Rattle.dwp_archive.specs.Entries.{Member, Entry}
use Rattle.dwp_archive.specs.Names.{short_name, long_name, own_name}

-- the name that stands in some bytes, by its form
abbrev pub name_in : NameForm → List ℕ → List ℕ
name_in Short bytes = short_name bytes
name_in Long bytes = long_name bytes
name_in Own bytes = own_name bytes

unfoldable pub member : declared.Member → Member
member m = record { name = name_in m.form m.named.now; content = m.content.now }

-- a member if there is one
abbrev pub listed : Option declared.Member → List Member
listed None = []
listed (Some m) = member m ∷ []

abbrev pub entry : declared_entry.Entry → Entry
entry e = record { names = e.names.now; members = listed e.member; rest = e.rest.now }
