-- Where changing calls go.
use Rattle.std.proofs.Common.{◌≡◌, Bool, true, List, Option, None, Some, Result, Ok, Err, sym, ap, subst, inl, inr}
use Rattle.cluster_tree.specs.PathValue.{PathValue}
use Rattle.cluster_tree.specs.PathOrder.{path_eq}
use Rattle.cluster_tree.specs.Contents.{Contents}
use Rattle.cluster_tree.specs.Frame.{Reads, Came}
use Rattle.cluster_tree.specs.Laws.{changed_path}
use Rattle.cluster_tree.specs.Run.{State, state_by, Makes}
use Rattle.cluster_tree.specs.declared.tree.Tree.{Ghosts}
use Rattle.cluster_tree.specs.declared.tree.ChangeCall.{ChangeCall}
use Rattle.cluster_tree.specs.declared.tree.TreeFault.{TreeFault}
use Rattle.cluster_tree.proofs.OrderLemmas.{path_eq-own}
use Rattle.cluster_tree.proofs.RunLemmas.{came_read, came_on}
use Rattle.file_edits.specs.Own.{is_on, is_own, GoesBy, GoesOn, Same, More, OnOwn}

pub at-own : (path : PathValue) → path_eq path path ≡ true
at-own path = path_eq-own path

-- what one changing call leaves, where it is at an own path
pub own-made : {A F : Type 0} (contents : F → Contents) (calls : F → List ChangeCall) (own : PathValue → Bool) (call : ChangeCall) (a b : F) (result : Result A TreeFault) → is_own own call ≡ true → Makes call (state_by contents calls a) (state_by contents calls b) result → OnOwn calls own a b
own-made contents calls own call a b (Ok v) is made first on = More call on is made.listed
own-made contents calls own call a b (Err e) is (inl same) first on = subst (GoesOn own first) (sym (ap (λ (s : State). s.calls) same)) on
own-made contents calls own call a b (Err e) is (inr happened) first on = More call on is happened.1.listed

still_on : (own more : PathValue → Bool) (o : Option PathValue) → ((q : PathValue) → own q ≡ true → more q ≡ true) → is_on own o ≡ true → is_on more o ≡ true
still_on own more None w e = absurd cc
still_on own more (Some path) w e = w path e

pub goes-by_on : (may : ChangeCall → Bool) (a b c : List ChangeCall) → GoesBy may a b → GoesBy may b c → GoesBy may a c
goes-by_on may a b c p Same = p
goes-by_on may a b c p (More call on is listed) = More call (goes-by_on may a b _ p on) is listed

pub goes-by_wider : (may more : ChangeCall → Bool) (a b : List ChangeCall) → ((call : ChangeCall) → may call ≡ true → more call ≡ true) → GoesBy may a b → GoesBy more a b
goes-by_wider may more a b w Same = Same
goes-by_wider may more a b w (More call on is listed) = More call (goes-by_wider may more a _ w on) (w call is) listed

pub goes_on : (own : PathValue → Bool) (a b c : List ChangeCall) → GoesOn own a b → GoesOn own b c → GoesOn own a c
goes_on own a b c = goes-by_on (is_own own) a b c

pub goes_wider : (own more : PathValue → Bool) (old new : List ChangeCall) → ((q : PathValue) → own q ≡ true → more q ≡ true) → GoesOn own old new → GoesOn more old new
goes_wider own more old new w = goes-by_wider (is_own own) (is_own more) old new (λ call. still_on own more (changed_path call) w)

-- more paths may be own
pub own-wider : {F : Type 0} (calls : F → List ChangeCall) (own more : PathValue → Bool) (a b : F) → ((q : PathValue) → own q ≡ true → more q ≡ true) → OnOwn calls own a b → OnOwn calls more a b
own-wider calls own more a b w p first on = goes_on more first (calls a) (calls b) on (goes_wider own more (calls a) (calls b) w (p (calls a) Same))

-- what only reads makes no call
pub own-read : {F : Type 0} (t : Ghosts F) (own : PathValue → Bool) (a b : F) → Reads t a b → OnOwn t.calls own a b
own-read t own a b reads first on = subst (GoesOn own first) (sym reads.uncalled) on

-- one after another
pub own-on : {F : Type 0} (calls : F → List ChangeCall) (own : PathValue → Bool) (a b c : F) → OnOwn calls own a b → OnOwn calls own b c → OnOwn calls own a c
own-on calls own a b c p q first on = q first (p first on)

pub came-read : {F : Type 0} (t : Ghosts F) (a b : F) → Reads t a b → Came t a b
came-read = came_read

pub came-on : {F : Type 0} (t : Ghosts F) (a b c : F) → Came t a b → Came t b c → Came t a c
came-on = came_on
