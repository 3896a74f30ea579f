-- The lines of a list, slot by slot: some are printed, the others wait. And what was listed.
use Rattle.thorin_find.specs.Listing.{AddsLine, behind_line, ListsPackage, PrintsFront, PrintsLines}
use Rattle.std.proofs.Common.{if◌then◌else◌, inl, inr, length, List, Ok, Option, refl, Result, sym}
use Rattle.thorin_find.specs.{declared.listing.ListForm.ListForm, Files.FailsToRead, Files.Offer}
use Rattle.dwp_index.specs.declared.{error.PackageError.PackageError, units.UnitEntry.UnitEntry}
use Rattle.thorin_find.specs.Listing.{answer_of, IsListedIn, ListsBytes, slot_line, UnitLines}
use Rattle.std.proofs.Common.{take, take-append-drop, true, [], ℕ, ◌&&◌, ◌++◌, ◌∙◌, ◌∷◌, ◌≡◌}
use Rattle.thorin_find.specs.Listing.{AreByRow, Begins, lines_of, Lists, ListView, view_of}
use Rattle.thorin_print.{proofs.Printed.nothing, specs.declared.output.Failure.Failure}
use Rattle.std.proofs.Common.{append-nil, append_assoc, arith, Bool, drop, Err, false}
use Rattle.std.{proofs.Math.Seq.take-append_seam, specs.Io.KnownBytes.Appends}
use Rattle.dwp_index.specs.Package.{found, FoundUnit, Package, package_of}
use Rattle.std.proofs.KnownBytes.{Appends-nil, Appends-trans, Keeps-refl}
use Rattle.thorin_print.specs.Answers.{Comes, HasBeginning, IsOfPrinting}
use Rattle.thorin_print.specs.declared.output.Failure.TheVariants as failures

-- ---- a text that waits

pub none_waits : (a : Option (List ℕ)) (text : List ℕ) → PrintsFront a a text text
none_waits a text = record { front = []; split = refl; printed = Appends-nil a }

pub all_waits : (old new : Option (List ℕ)) (text rest : List ℕ) → rest ≡ []
    → Appends old new text → PrintsFront old new text rest
all_waits old new text rest none h =
    record { front = text; split = rw none (sym (append-nil text)); printed = h }

-- of what waits before the rest some was printed
front_more : (old middle new : Option (List ℕ)) (all next still more : List ℕ)
    → PrintsFront old middle all (next ++ more) → PrintsFront middle new next still
    → PrintsFront old new all (still ++ more)
front_more old middle new all next still more p q = record {
  front = p.front ++ q.front;
  split = rw (p.split, q.split, append_assoc, append_assoc) refl;
  printed = Appends-trans old middle new p.front q.front p.printed q.printed;
}

-- what was printed, and a beginning of what is left, are a beginning of all
begun_behind : (old middle new : Option (List ℕ)) (front rest more : List ℕ)
    → Appends old middle front → HasBeginning middle new rest
    → HasBeginning old new (front ++ (rest ++ more))
unfolding HasBeginning
begun_behind old middle new front rest more printed h =
    let all = Appends-trans old middle new front (take h.0 rest) printed h.1 in
    let split : front ++ (rest ++ more) ≡ (front ++ take h.0 rest) ++ (drop h.0 rest ++ more) =
    rw (append_assoc, ← append_assoc (take h.0 rest), take-append-drop) refl in
    (length (front ++ take h.0 rest), rw (split, take-append_seam) all)

-- ---- slot by slot

-- of the lines of all slots, those up to the rest were added: some are printed, the others wait
pub record PrintedSoFar (view : ListView) (pack : Package) (all rest : List UnitEntry)
    (old new : Option (List ℕ)) (waiting : List ℕ) : Type 0 where
  pub is_all : (lines_of view pack rest).is_all ≡ (lines_of view pack all).is_all
  pub front : PrintsFront old new (lines_of view pack all).printed
      (waiting ++ (lines_of view pack rest).printed)

-- the lines from a slot on, whose line was added where its unit was looked up
line_added : (view : ListView) (entry : UnitEntry) (looked : Result (Option FoundUnit) PackageError)
    (lines : UnitLines) (waiting next : List ℕ) (is_found : Bool)
    → AddsLine view entry looked waiting next is_found
    → ((behind_line view entry looked lines).is_all ≡ (is_found && lines.is_all))
    × (waiting ++ (behind_line view entry looked lines).printed
    ≡ next ++ (if is_found then lines.printed else []))
line_added view entry (Err cause) lines waiting next is_found h = rw (h.0, h.1) (refl, refl)
line_added view entry (Ok unit) lines waiting next is_found h =
    rw (h.0, h.1) (refl, sym (append_assoc waiting (slot_line view entry unit) lines.printed))

module _ (view : ListView) (pack : Package) (all : List UnitEntry) (old : Option (List ℕ)) where
  -- of what waits a beginning was printed
  begun_waiting : (failure : Failure) (middle new : Option (List ℕ)) (waiting more : List ℕ)
      → PrintsFront old middle (lines_of view pack all).printed (waiting ++ more)
      → Begins failure waiting middle new → Begins failure (lines_of view pack all).printed old new
  begun_waiting failure middle new waiting more p b = record {
    cause = b.cause;
    begun = rw p.split (begun_behind old middle new p.front waiting more p.printed b.begun);
  }

  -- what is printed so far is a beginning
  pub begun : (failure : Failure) (rest : List UnitEntry) (new : Option (List ℕ))
      (waiting : List ℕ) → IsOfPrinting failure → PrintedSoFar view pack all rest old new waiting
      → Begins failure (lines_of view pack all).printed old new
  begun failure rest new waiting cause s = begun_waiting failure new new waiting _ s.front
      (record { cause = cause; begun = nothing new waiting })

  -- no slot is left
  pub all_found : (rest : List UnitEntry) (new : Option (List ℕ)) (waiting : List ℕ) → rest ≡ []
      → PrintedSoFar view pack all rest old new waiting
      → PrintsLines (lines_of view pack all) true old new waiting
  all_found rest new waiting none s =
      let so_far = rw none at s in
      record { all = so_far.is_all; front = rw append-nil at so_far.front }

  module _ (entry : UnitEntry) (rest : List UnitEntry) (middle : Option (List ℕ))
      (waiting next : List ℕ) (left : List UnitEntry) (is_found : Bool)
      (is_left : left ≡ entry ∷ rest)
      (added : AddsLine view entry (found pack entry.object) waiting next is_found)
      (s : PrintedSoFar view pack all left old middle waiting) where
    -- its line waits, where its unit was found; and no more, where it can't be looked up
    waits : ((is_found && (lines_of view pack rest).is_all) ≡ (lines_of view pack all).is_all)
        × PrintsFront old middle (lines_of view pack all).printed
        (next ++ (if is_found then (lines_of view pack rest).printed else []))
    waits =
        let here = line_added view entry (found pack entry.object) (lines_of view pack rest) waiting
        next is_found added in
        let so_far = rw is_left at s in
        (rw (← here.0) so_far.is_all, rw (← here.1) so_far.front)

    -- its unit was found, and what waits was printed or not
    pub printed_next : (still : List ℕ) (new : Option (List ℕ)) → is_found ≡ true
        → PrintsFront middle new next still → PrintedSoFar view pack all rest old new still
    printed_next still new is q =
        let so_far = rw is at waits in
        record { is_all = so_far.0; front = front_more old middle new _ next still _ so_far.1 q }

    -- it can't be looked up
    pub not_found : is_found ≡ false → PrintsLines (lines_of view pack all) false old middle next
    not_found is =
        let so_far = rw is at waits in
        record { all = so_far.0; front = rw append-nil at so_far.1 }

    -- its line wasn't printed whole
    pub begun_next : (failure : Failure) (new : Option (List ℕ))
        → Begins failure next middle new → Begins failure (lines_of view pack all).printed old new
    begun_next failure new b = begun_waiting failure middle new next _ waits.1 b

-- ---- what stands behind the lines

-- nothing behind them
listed_alone : (columns : Bool) (form : ListForm) (lines : UnitLines) (is_all : Bool)
    → lines.is_all ≡ is_all → IsListedIn columns form lines
    (record { printed = lines.printed; answer = answer_of lines.is_all })
listed_alone true form lines is_all e = refl
listed_alone false form lines is_all e =
    record { totals = []; no_totals = λ e. refl; is = grind (arith, append-nil lines.printed) }

module _ (form : ListForm) (is_all : Bool) (old new : List ℕ) (given : Result ℕ Failure)
    (answered : given ≡ answer_of is_all) where
  -- nothing: a unit can't be looked up, or sizes aren't asked for
  pub listed_plain : new ≡ old
      → IsListedIn form.columns form (record { printed = old; is_all = is_all })
      (record { printed = new; answer = given })
  listed_plain same = rw (same, answered) (listed_alone form.columns form
      (record { printed = old; is_all = is_all }) is_all refl)

  -- totals
  pub listed_sized : form.columns ≡ false → is_all ≡ true → form.sizes ≡ true
      → ((totals : List ℕ) × (new ≡ old ++ totals))
      → IsListedIn form.columns form (record { printed = old; is_all = is_all })
      (record { printed = new; answer = given })
  listed_sized plain goes asked added = rw plain (record {
    totals = added.0;
    no_totals = λ e. absurd (cc (sym asked ∙ e));
    is = rw (answered, goes, added.1) refl;
  })

-- ---- lines that were printed, and what stands behind them

listed_behind : (columns : Bool) (form : ListForm) (lines : UnitLines) (is_all : Bool)
    (front waiting text : List ℕ) (given : Result ℕ Failure) → is_all ≡ lines.is_all
    → lines.printed ≡ front ++ waiting
    → IsListedIn columns form (record { printed = waiting; is_all = is_all })
    (record { printed = text; answer = given })
    → IsListedIn columns form lines (record { printed = front ++ text; answer = given })
listed_behind true form lines is_all front waiting text given all split h = rw (← all) h
listed_behind false form lines is_all front waiting text given all split h = record {
  totals = h.totals;
  no_totals = h.no_totals;
  is = grind (arith, h.is, append_assoc front waiting h.totals);
}

begun_front : (old middle new : Option (List ℕ)) (front rest : List ℕ) → Appends old middle front
    → HasBeginning middle new rest → HasBeginning old new (front ++ rest)
begun_front old middle new front rest printed h =
    rw append-nil at (begun_behind old middle new front rest [] printed h)

-- what was printed before, and what came of the rest
comes_behind : (result given : Result ℕ Failure) (front rest : List ℕ)
    (old middle new : Option (List ℕ)) → Appends old middle front
    → Comes result (record { printed = rest; answer = given }) middle new
    → Comes result (record { printed = front ++ rest; answer = given }) old new
comes_behind result given front rest old middle new printed h =
    let part = begun_front old middle new front rest printed in
    grind (arith, Appends-trans old middle new front rest printed, part)

module _ (form : ListForm) (pack : Package) (entries : List UnitEntry)
    (by_row : AreByRow pack entries) (old : Option (List ℕ)) where
  abbrev Lines : UnitLines
  Lines = lines_of (view_of form pack) pack entries

  -- they weren't printed whole
  pub begun_listing : (failure : Failure) (new : Option (List ℕ))
      → Begins failure Lines.printed old new → ListsPackage form pack old new (Err failure)
  begun_listing failure new b = record {
    entries = entries;
    by_row = by_row;
    meant = record { printed = Lines.printed; answer = answer_of Lines.is_all };
    listed = listed_alone form.columns form Lines Lines.is_all refl;
    comes = grind (arith, b.cause, b.begun);
  }

  -- there was no memory for what stands behind them
  pub rest_begun : (middle : Option (List ℕ)) (waiting : List ℕ)
      → PrintsFront old middle Lines.printed waiting
      → ListsPackage form pack old middle (Err failures.Memory)
  rest_begun middle waiting p =
      let b = begun_front old middle middle p.front waiting p.printed (nothing middle waiting) in
      begun_listing failures.Memory middle (record { cause = tt; begun = rw p.split b })

  -- the rest was printed behind them
  pub whole_listing : (is_all : Bool) (middle : Option (List ℕ)) (waiting : List ℕ)
      → PrintsLines Lines is_all old middle waiting → (new : Option (List ℕ)) (text : List ℕ)
      (given result : Result ℕ Failure)
      → IsListedIn form.columns form (record { printed = waiting; is_all = is_all })
      (record { printed = text; answer = given })
      → Comes result (record { printed = text; answer = given }) middle new
      → ListsPackage form pack old new result
  whole_listing is_all middle waiting p new text given result listed comes = record {
    entries = entries;
    by_row = by_row;
    meant = record { printed = p.front.front ++ text; answer = given };
    listed = listed_behind form.columns form Lines is_all p.front.front waiting text given p.all
        p.front.split listed;
    comes = comes_behind result given p.front.front text old middle new p.front.printed comes;
  }

-- ---- what came of it

-- the file was read
pub file_read : (offer : Offer) (path bytes lent : List ℕ) (form : ListForm)
    (old new : Option (List ℕ)) (result : Result ℕ Failure) → offer path (Ok bytes) → lent ≡ bytes
    → ListsBytes form (package_of lent) old new result → Lists offer path form old new result
unfolding Lists
file_read offer path bytes lent form old new result read same h = inl (bytes, read, rw same at h)

-- it can't be read, or there is no memory to do so
pub not_listed : (offer : Offer) (path : List ℕ) (form : ListForm) (a : Option (List ℕ))
    (failure : Failure) → FailsToRead offer path failure → Lists offer path form a a (Err failure)
unfolding Lists
not_listed offer path form a failure h = inr (h, Keeps-refl a)
