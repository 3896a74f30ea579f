-- What is remembered of a place of a section of abbreviations, from what is remembered of the next.
-- A new version has what the older one has but for one key, and older versions stay. What a map
-- from numbers has for each of them.
use Rattle.dwp_dwarf.proofs.Terms
use Rattle.dwp_dwarf.proofs.Tables.{from_is, from_within, look_up-here, look_up-other, next_shorter}
use Rattle.dwp_dwarf.specs.Versions.{copy_of, Grows, half, held, older, side_of, value_by, value_in}
use Terms.{Declaration, declaration, Goes, length-append, length-drop, length-take, RemembersPlaces}
use Terms.{arith, cond, false, front, IfSome, Input, length, List, lt-ltb, ne_eqb, Option, subst, ℕ}
use Terms.{BTreeMap, by-bool, drop-take, eqb-false, eqb-true, from_at, nat_cmp, next_at, slice_get}
use Terms.{Bool, eqb, get, Node, None, refl, Some, sym, true, zero, ◌++◌, ◌-◌, ◌<◌, ◌∙◌, ◌≢◌, ◌≤◌}
use Rattle.dwp_dwarf.specs.{declared.chains.Chains.Chains, Versions.node_of, Versions.with_side}
use Rattle.dwp_dwarf.{proofs.Tables.Next, proofs.Tables.next_takes, specs.Versions.value_below}
use Rattle.dwp_dwarf.specs.Chains.{RemembersChains, RemembersPlace, StaysBefore, StaysBehind}
use Rattle.dwp_dwarf.specs.Chains.{absent_by, DeclaredAt, EndsBefore, FirstAt, from_end}
use Rattle.{dwp_bytes.specs.Input.after, dwp_dwarf.specs.declared.chains.Place.Place}
use Rattle.dwp_units.proofs.Readings.{goes_then, one_answer, size, takes_front}
use Rattle.std.proofs.lemmas.Option.{IfSome_then, slice_get_within}
use Terms.{[], ap, Ok, suc, ◌+◌, ◌∷◌, ◌≡◌}

-- what was added makes the nodes more
pub grows_length : {old new : List Node} → Grows old new → length old ≤ length new
grows_length {old} g =
    omega (arith, ap (λ (l : List Node). length l) g.is, length-append old g.more)

get_append : (xs ys : List Node) (i : ℕ) → i < length xs → slice_get (xs ++ ys) i ≡ slice_get xs i
get_append [] ys i p = absurd (omega arith)
get_append (x ∷ xs) ys zero p = refl
get_append (x ∷ xs) ys (suc i) p = get_append xs ys i (omega arith)

-- a node that was there stays
node_stays : {old new : List Node} (version : ℕ) → Grows old new → version ≤ length old
    → node_of new version ≡ node_of old version
node_stays zero g p = refl
node_stays {old} (suc i) g p = rw g.is (get_append old g.more i (omega arith))

older_within : (version other : ℕ) → older version other ≤ version
older_within version other = grind arith

-- ---- what a version has, by its node

-- of levels that aren't none
pub one_level : (levels : ℕ) (nodes : List Node) (version key : ℕ) → levels ≢ 0
    → value_below levels nodes version key ≡ value_by (node_of nodes version) key (λ node.
    value_below (levels - 1) nodes (older version (side_of node key)) (half key))
unfolding value_below
one_level levels nodes version key some = grind arith

pub none_below : (n : ℕ) (nodes : List Node) (version key : ℕ) → node_of nodes version ≡ None
    → value_below n nodes version key ≡ None
unfolding value_below
none_below zero nodes version key e = refl
none_below (suc n) nodes version key e = rw e refl

others_alike : (o : Option Node) (key : ℕ) (f g : Node → Option ℕ)
    → ((node : Node) → f node ≡ g node) → value_by o key f ≡ value_by o key g
others_alike o key f g same = grind (arith, same)

-- older versions stay
pub value_stays : {old new : List Node} (n : ℕ) {version : ℕ} (key : ℕ) → Grows old new
    → version ≤ length old → value_below n new version key ≡ value_below n old version key
unfolding value_below
value_stays zero key g p = refl
value_stays {old = old} (suc n) {version = version} key g p = rw (node_stays version g p)
    (others_alike (node_of old version) key _ _ (λ node. value_stays n (half key) g
    (omega (arith, older_within version (side_of node key)))))

-- ---- the same by a copy of the node

copy_within : (nodes : List Node) (version key : ℕ)
    → side_of (copy_of nodes version) key ≤ length nodes
copy_within nodes version key = grind (arith, slice_get_within nodes, older_within version)

-- what a node has whose sides are older
abbrev node_has : ℕ → List Node → Node → ℕ → Option ℕ
node_has levels nodes node key = cond (eqb key 0) (held node.value) (value_below (levels - 1) nodes
    (side_of node key) (half key))

by_copy : (levels : ℕ) (nodes : List Node) (version key : ℕ) → levels ≢ 0
    → value_below levels nodes version key ≡ node_has levels nodes (copy_of nodes version) key
by_copy levels nodes version key some =
    let one = one_level levels nodes version key some in
    let none = none_below (levels - 1) nodes 0 (half key) in
    grind (arith, one, none)

-- a node that was added
pub added_has : (levels : ℕ) (nodes : List Node) (added key : ℕ) (b : Node) → levels ≢ 0
    → node_of nodes added ≡ Some b → side_of b key < added
    → value_below levels nodes added key ≡ node_has levels nodes b key
added_has levels nodes added key b some now less = one_level levels nodes added key some
    ∙ rw (now, lt-ltb (side_of b key) added less) refl

-- ---- a version that was added has one key more

-- where the node is alike but for a value or for a side
others_by : (levels : ℕ) (old new : List Node) (version added other : ℕ) (b copy : Node)
    → levels ≢ 0 → copy ≡ copy_of old version → node_of new added ≡ Some b → side_of b other < added
    → (other ≡ 0 → b.value ≡ copy.value) → (other ≢ 0 → value_below (levels - 1) new
    (side_of b other) (half other) ≡ value_below (levels - 1) old (side_of copy other) (half other))
    → value_below levels new added other ≡ value_below levels old version other
others_by levels old new version added other b copy some is now less values sides =
    let here = added_has levels new added other b some now less in
    grind (arith, here, by_copy levels old version other some, values, sides)

-- where the node's own value is the new one
pub value_here : (levels : ℕ) (new : List Node) (added key : ℕ) (b : Node) → levels ≢ 0 → key ≡ 0
    → b.value ≢ 0 → node_of new added ≡ Some b → value_below levels new added key ≡ Some b.value
value_here levels new added key b some here there now = one_level levels new added key some
    ∙ rw (now, here, ne_eqb b.value 0 there) refl

pub others_here : (levels : ℕ) (old new : List Node) (version added key value : ℕ) (copy : Node)
    → levels ≢ 0 → key ≡ 0 → copy ≡ copy_of old version → Grows old new → length old < added
    → node_of new added ≡ Some (record copy { value = value }) → (other : ℕ) → other ≢ key
    → value_below levels new added other ≡ value_below levels old version other
others_here levels old new version added key value copy some here is g above now other apart =
    let fits = rw (← is) at (copy_within old version other) in
    others_by levels old new version added other (record copy { value = value }) copy some is now
    (omega (arith, fits, above)) (λ e. absurd (apart (e ∙ sym here)))
    (λ _. value_stays (levels - 1) (half other) g fits)

module _ {old mid new : List Node} (levels version added low key : ℕ) (copy : Node)
    (some : levels ≢ 0) (there : key ≢ 0) (copied : copy ≡ copy_of old version)
    (before : Grows old mid) (behind : Grows mid new) (fits : low ≤ length mid)
    (above : length mid < added) (now : node_of new added ≡ Some (with_side copy key low)) where
  pub value_beside : {value : ℕ} → value_below (levels - 1) mid low (half key) ≡ Some value
      → value_below levels new added key ≡ Some value
  value_beside has =
      let here = added_has levels new added key (with_side copy key low) some now in
      let stays = value_stays (levels - 1) (half key) behind fits in
      grind (arith, here, stays)

  pub others_beside : ((k : ℕ) → k ≢ half key → value_below (levels - 1) mid low k
      ≡ value_below (levels - 1) old (side_of copy key) k) → (other : ℕ)
      → other ≢ key → value_below levels new added other ≡ value_below levels old version other
  others_beside same other apart =
      let fits_copy = rw (← copied) at (copy_within old version other) in
      let by =
      others_by levels old new version added other (with_side copy key low) copy some copied now in
      let up = value_stays (levels - 1) (half other) behind fits in
      let long = grows_length before in
      let stays = value_stays (levels - 1) (half other) behind (omega (arith, fits_copy, long))
      ∙ value_stays (levels - 1) (half other) before fits_copy in
      grind (arith, long, fits_copy, by, up, stays, same (half other))

-- by whether it is the key
pub by_key : {P : Type 0} (k q : ℕ) → (q ≡ k → P) → (q ≢ k → P) → P
by_key k q here other = by-bool _ (eqb q k) (λ e. here (eqb-true _ _ e))
    (λ e. other (eqb-false _ _ e))

pub none_each : {V : Type 0} (P : ℕ → V → Type 0) (m : BTreeMap ℕ V) → m.entries ≡ [] → (q : ℕ)
    → IfSome (get nat_cmp m q) (P q)
none_each P m empty q = rw empty tt

-- a value that was put under a key, where there was memory for it
pub put_keeps : {V : Type 0} (P : ℕ → V → Type 0) (old new : BTreeMap ℕ V) (k : ℕ) (v : V)
    (is_put : Bool) → P k v → (is_put ≡ true → get nat_cmp new k ≡ Some v)
    → ((q : ℕ) → q ≢ k → get nat_cmp new q ≡ get nat_cmp old q)
    → (is_put ≡ false → (q : ℕ) → get nat_cmp new q ≡ get nat_cmp old q)
    → ((q : ℕ) → IfSome (get nat_cmp old q) (P q)) → (q : ℕ) → IfSome (get nat_cmp new q) (P q)
put_keeps P old new k v is_put p here others refused has q = by-bool _ is_put
    (λ yes. by_key k q (λ e. rw (e, here yes) p) (λ apart. rw (others q apart) (has q)))
    (λ no. rw (refused no q) (has q))

pub if_both : {A : Type 0} (o : Option A) {P Q R : A → Type 0} → ((x : A) → P x → Q x → R x)
    → IfSome o P → IfSome o Q → IfSome o R
if_both (Some x) f p q = f x p q
if_both None f p q = tt

-- ---- what a table says of a code doesn't need the bytes behind the code's declaration

-- what comes behind a declaration is what the section has from there on
pub end_behind : (section i : Input) (left : ℕ) (x : Next) → from_end left section ≡ Ok i
    → next_at i ≡ Ok (Some x) → from_end (length x.1.bytes) section ≡ Ok x.1
end_behind section i left x is h =
    let offset : ℕ = length section.bytes - left in
    let from = from_is offset section i is in
    let start : Goes offset section i =
    record { taken = offset; some = omega arith; enough = from.0; is = from.1 } in
    let g = goes_then start (next_takes i x h).goes in
    let left : length x.1.bytes ≡ length section.bytes - g.taken =
    ap size g.is ∙ length-drop g.taken section.bytes in
    let place : length section.bytes - length x.1.bytes ≡ g.taken = omega (arith, left, g.enough) in
    rw place (from_within g.taken section g.enough ∙ ap (λ j. Ok j) (sym g.is))

-- of the code of the declaration at a place
pub ends_here : (section i : Input) (left : ℕ) (x : Next) → from_end left section ≡ Ok i
    → next_at i ≡ Ok (Some x) → StaysBehind section i x.0.0 left
ends_here section i left x is h = λ d stands.
    let next = rw (one_answer _ stands.is is) at stands.next in
    let same : stands.behind ≡ x.1 = cc in
    rw same (
      omega (arith, next_shorter i x h),
      λ n enough. let m : ℕ = n + length x.1.bytes - length i.bytes in
          look_up-here (front n i) (x.0, front m x.1)
          (takes_front (next_takes i x h) n m (omega (arith, enough))) ∙ sym (look_up-here i x h),
    )

-- of another code, by the table behind the declaration at a place
pub ends_further : (section i : Input) (wanted first : ℕ) (x : Next) → next_at i ≡ Ok (Some x)
    → x.0.0 ≢ wanted → StaysBehind section x.1 wanted first → StaysBehind section i wanted first
ends_further section i wanted first x h apart inside = λ d stands.
    let ends = inside d stands in (
      omega (arith, next_shorter i x h, ends.0),
      λ n enough. let m : ℕ = n + length x.1.bytes - length i.bytes in
          look_up-other wanted (front n i) (x.0, front m x.1)
          (takes_front (next_takes i x h) n m (omega (arith, enough, ends.0))) apart
          ∙ ends.1 m (omega (arith, enough, ends.0)) ∙ sym (look_up-other wanted i x h apart),
    )

-- a declaration that ends within the first bytes of a section is there too
pub same_within : (section part whole : Input) (offset end left code : ℕ) → length section.bytes
    ≤ left + end → StaysBefore whole code left → from_at offset (front end section) ≡ Ok part
    → from_at offset section ≡ Ok whole → declaration code part ≡ declaration code whole
same_within section part whole offset end left code fits ends p w =
    let first = from_is offset (front end section) part p in
    let all = from_is offset section whole w in
    let way : offset + (end - offset) ≡ end =
    omega (arith, first.0, length-take end section.bytes) in
    let cut = rw way at (drop-take offset (end - offset) section.bytes) in
    let is : part ≡ front (end - offset) whole = first.1 ∙ ap (λ (l : List ℕ).
    record (after offset section) { bytes = l }) cut ∙ ap (front (end - offset)) (sym all.1) in
    let size : length whole.bytes ≡ length section.bytes - offset =
    rw all.1 (length-drop offset section.bytes) in
    ap (declaration code) is ∙ ends (end - offset) (omega (arith, size, way, fits))

-- ---- nodes and places that stay

pub place_stays : {section : Input} {nodes grown : List Node} {left : ℕ} {place : Place} → Grows
    nodes grown → RemembersPlace section nodes left place → RemembersPlace section grown left place
place_stays {nodes = nodes} {grown = grown} {place = place} g r =
    let first : (code : ℕ) → value_in grown place.version code ≡ value_in nodes place.version code =
    λ code. value_stays 65 code g r.fits in
    record {
      table = r.table;
      is = r.is;
      fits = omega (arith, r.fits, grows_length g);
      same = λ code. rw (first code) (r.same code);
      ends = λ code. rw (first code) (r.ends code);
      behind = r.behind;
    }

-- more nodes alone
pub places_stay : (section : Input) (old new : Chains) → new.places ≡ old.places
    → Grows old.firsts.nodes.items new.firsts.nodes.items → RemembersPlaces section old
    → RemembersPlaces section new
places_stay section old new same g r = λ left. rw same (IfSome_then (get nat_cmp old.places left)
    (r left) (λ place p. place_stays g p))

-- ---- what is remembered is said

-- what is remembered of a place is remembered of the table that begins there
place_of : {section table : Input} (chains : Chains) {left : ℕ} {place : Place} → get nat_cmp
    chains.places left ≡ Some place → RemembersPlaces section chains → from_end left section ≡
    Ok table → (r : RemembersPlace section chains.firsts.nodes.items left place) × (r.table ≡ table)
place_of chains {left} here all is =
    let r = rw here at (all left) in (r, one_answer _ r.is is)

-- what a version has for a code is the place of its first declaration
pub first_is : (section : Input) (chains : Chains) (offset size left code first : ℕ) (place : Place)
    → size ≡ length section.bytes → offset ≤ size → left ≡ size - offset
    → get nat_cmp chains.places left ≡ Some place → value_in chains.firsts.nodes.items place.version
    code ≡ Some first → RemembersChains section chains → FirstAt section offset code first
first_is section chains offset size left code first place is fits rest here some all =
    let p = rw here at (all.places left) in
    let same : length section.bytes - left ≡ offset = omega (arith, is, rest) in
    let declared : DeclaredAt section first (declaration code p.table) = rw some at (p.same code) in
    record {
      table = p.table;
      is = rw same at p.is;
      says = rw (declared.stands.is, declared.stands.next) (sym declared.says);
    }

-- where the first declaration of a code ends that a version has
pub end_is : (section table : Input) (chains : Chains) (left code first : ℕ)
    (place declared : Place) → get nat_cmp chains.places left ≡ Some place
    → value_in chains.firsts.nodes.items place.version code ≡ Some first
    → get nat_cmp chains.places first ≡ Some declared → RemembersPlaces section chains
    → from_end left section ≡ Ok table → EndsBefore table code declared.behind
end_is section table chains left code first place declared here some there all is =
    let p = place_of chains here all is in
    let said : DeclaredAt section first (declaration code p.0.table) = rw some at (p.0.same code) in
    let stands = said.stands in
    let q = place_of chains there all stands.is in
    let inside = rw some at (p.0.ends code) in
    let end : declared.behind ≡ length stands.behind.bytes =
    q.0.behind ((stands.code, said.declared), stands.behind) (rw q.1 stands.next) in
    rw end (subst (λ (t : Input). EndsBefore t code (length stands.behind.bytes))
    p.1 ((said.declared, said.says), (inside said.declared stands).1))

-- ---- a place that is remembered now

-- where no declaration stands
pub place_end : {section i : Input} {nodes : List Node} {left : ℕ} {place : Place} → from_end
    left section ≡ Ok i → ((code : ℕ) → declaration code i ≡ absent_by place.error) → ((x : Next)
    → next_at i ≡ Ok (Some x) → ⊥) → place.version ≡ 0 → RemembersPlace section nodes left place
place_end {i = i} {nodes = nodes} is absent never none = record {
  table = i;
  is = is;
  fits = omega (arith, none);
  same = λ code. rw (none, none_below 65 nodes 0 code refl) (absent code);
  ends = λ code. rw (none, none_below 65 nodes 0 code refl) tt;
  behind = λ x h. absurd (never x h);
}

-- at a declaration
pub place_next : {section i behind : Input} {nodes grown : List Node} {left code : ℕ}
    {declared : Declaration} {next place : Place} → from_end left section ≡ Ok i → next_at i
    ≡ Ok (Some ((code, declared), behind)) → RemembersPlace section nodes (length behind.bytes) next
    → place.error ≡ next.error → place.behind ≡ length behind.bytes
    → place.version ≤ length grown → value_in grown place.version code ≡ Some left → ((other : ℕ)
    → other ≢ code → value_in grown place.version other ≡ value_in nodes next.version other)
    → RemembersPlace section grown left place
place_next {section} {i} {behind} {nodes} {grown} {left} {code} {declared} {next} {place}
    is h r error end fits here others =
    let x : Next = ((code, declared), behind) in
    let table : r.table ≡ behind = one_answer _ r.is (end_behind section i left x is h) in
    record {
      table = i;
      is = is;
      fits = fits;
      same = λ c. by_key code c (λ e. rw (e, here) (record {
        declared = declared;
        stands = record { start = i; is = is; code = code; behind = behind; next = h };
        says = look_up-here i x h;
      })) (λ apart. rw (others c apart, error, look_up-other c i x h (λ e. apart (sym e)))
          (rw table at (r.same c)));
      ends = λ c. by_key code c (λ e. rw (e, here) (ends_here section i left x is h)) (λ apart. rw
          (others c apart) (IfSome_then (value_in nodes next.version c) (r.ends c) (λ first inside.
          ends_further section i c first x h (λ e. apart (sym e)) (rw table at inside))));
      behind = λ y same. let one = one_answer (next_at i) same h in
          let is : y ≡ x = cc in rw (end, is) refl;
    }
