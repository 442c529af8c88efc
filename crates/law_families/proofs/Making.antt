-- What nodes ask of volume servers: new volumes that aren't in service, of which a read-write volume's family has its number, and clones that are
-- no read-write volumes.
use Rattle.std.proofs.Common.{◌≡◌, ℕ, Bool, true, false, cond, List, refl}
use Rattle.std.specs.Prelude.{⊤, nat_eq}
use Rattle.afs_num.specs.declared.messages.Call.{Call}
use Rattle.afs_num.specs.declared.messages.Call.TheVariants as ask
use Rattle.afs_num.specs.declared.messages.Carried.{Carried}
use Rattle.afs_num.specs.declared.messages.Carried.TheVariants as carried
use Rattle.afs_num.specs.declared.messages.Message.{Message}
use Rattle.afs_num.specs.declared.types.Node.{Node}
use Rattle.afs_num.specs.declared.types.Node.TheVariants.{Server}
use Rattle.afs_num.specs.declared.volume_calls.VolCall.{VolCall}
use Rattle.afs_num.specs.declared.volume_calls.VolCall.TheVariants as calls
use Rattle.spec_ideal.specs.Operations.{is_number}
use Rattle.spec_adminrows.specs.Acts.{asks_at}
use Rattle.spec_adminrows.specs.AdminRow.{errand_of}
use Rattle.spec_adminrows.specs.Copying.{backup_asks, dump_asks}
use Rattle.spec_adminrows.specs.Creating.{create_asks}
use Rattle.spec_adminrows.specs.Moving.{move_asks}
use Rattle.spec_adminrows.specs.Recovering.{mend_asks}
use Rattle.spec_adminrows.specs.Releasing.{release_asks, tour_asks, visit_asks}
use Rattle.spec_adminrows.specs.Removing.{remove_asks, sweep_asks}
use Rattle.spec_adminrows.specs.declared.places.Backing.{Backing}
use Rattle.spec_adminrows.specs.declared.places.Backing.TheVariants as backing
use Rattle.spec_adminrows.specs.declared.places.Creating.{Creating}
use Rattle.spec_adminrows.specs.declared.places.Creating.TheVariants as creating
use Rattle.spec_adminrows.specs.declared.places.Dumping.{Dumping}
use Rattle.spec_adminrows.specs.declared.places.Dumping.TheVariants as dumping
use Rattle.spec_adminrows.specs.declared.places.Fresh.{Fresh}
use Rattle.spec_adminrows.specs.declared.places.Hold.{Hold}
use Rattle.spec_adminrows.specs.declared.places.Mend.{Mend}
use Rattle.spec_adminrows.specs.declared.places.Mending.{Mending}
use Rattle.spec_adminrows.specs.declared.places.Mending.TheVariants as mending
use Rattle.spec_adminrows.specs.declared.places.Moving.{Moving}
use Rattle.spec_adminrows.specs.declared.places.Moving.TheVariants as moving
use Rattle.spec_adminrows.specs.declared.places.Place.{Place}
use Rattle.spec_adminrows.specs.declared.places.Place.TheVariants as places
use Rattle.spec_adminrows.specs.declared.places.Releasing.{Releasing}
use Rattle.spec_adminrows.specs.declared.places.Releasing.TheVariants as releasing
use Rattle.spec_adminrows.specs.declared.places.Removing.{Removing}
use Rattle.spec_adminrows.specs.declared.places.Removing.TheVariants as removing
use Rattle.spec_adminrows.specs.declared.places.Saving.{Saving}
use Rattle.spec_adminrows.specs.declared.places.Spot.{Spot}
use Rattle.spec_adminrows.specs.declared.places.Sweeping.{Sweeping}
use Rattle.spec_adminrows.specs.declared.places.Sweeping.TheVariants as sweeping
use Rattle.spec_adminrows.specs.declared.places.Tour.{Tour}
use Rattle.spec_adminrows.specs.declared.places.Touring.{Touring}
use Rattle.spec_adminrows.specs.declared.places.Touring.TheVariants as touring
use Rattle.spec_adminrows.specs.declared.places.Trip.{Trip}
use Rattle.spec_adminrows.specs.declared.places.Visiting.{Visiting}
use Rattle.spec_adminrows.specs.declared.places.Visiting.TheVariants as visiting
use Rattle.spec_adminrows.specs.declared.turns.Errand.{Errand}
use Rattle.spec_volrows.specs.VolStates.{Sending}
use Rattle.law_walks.specs.Messages.{Rules}
use Rattle.law_walks.specs.Sends.{AnswersAre}
use Rattle.law_walks.proofs.LocSends.{loc_makes_any}
use Rattle.law_walks.proofs.VolDecides.{makes_any}

-- ---- messages

abbrev pub MakesOwn : VolCall → Type 0
MakesOwn (calls.CreateVolume family id name kind flags quota) = (nat_eq kind 0 ≡ true → family ≡ id) × (nat_eq flags 0 ≡ false)
MakesOwn (calls.Clone family number id name kind) = nat_eq kind 0 ≡ false
MakesOwn call = ⊤

abbrev pub AsksOwn : Call → Type 0
AsksOwn (ask.Volume call) = MakesOwn call
AsksOwn (ask.File call) = ⊤
AsksOwn (ask.Location call) = ⊤

abbrev pub CarriesOwn : Carried → Type 0
CarriesOwn (carried.Call user call) = AsksOwn call
CarriesOwn (carried.Refusal code) = ⊤
CarriesOwn (carried.Reply reply) = ⊤
CarriesOwn carried.Notice = ⊤

abbrev pub Fits : Message → Type 0
Fits m = CarriesOwn m.carried

-- ---- what administrators ask, at each place of an act

create_asked : (name : List ℕ) (f : Fresh) (at : Creating) → AsksOwn (create_asks name f at).call
create_asked name f creating.Numbers = tt
create_asked name f (creating.Makes v) = ((λ kind. refl), refl)
create_asked name f at = tt

backup_asked : (name : List ℕ) (h : Hold) (at : Backing) → AsksOwn (backup_asks name h at).call
backup_asked name h (backing.Clones t x) = refl
backup_asked name h at = tt

dump_asked : (s : Saving) (at : Dumping) → AsksOwn (dump_asks s at).call
dump_asked s dumping.Stamps = tt
dump_asked s at = tt

release_asked : (h : Hold) (at : Releasing) → AsksOwn (release_asks h at).call
release_asked h releasing.Stamps = tt
release_asked h at = tt

tour_asked : (name : List ℕ) (r : Tour) (at : Touring) → AsksOwn (tour_asks name r at).call
tour_asked name r (touring.Clones t) = refl
tour_asked name r at = tt

visit_asked : (name : List ℕ) (r : Tour) (s : ℕ) (at : Visiting) → AsksOwn (visit_asks name r s at).call
visit_asked name r s visiting.Stamps = tt
visit_asked name r s visiting.Makes = ((λ kind. absurd cc), refl)
visit_asked name r s at = tt

move_asked : (name : List ℕ) (m : Trip) (at : Moving) → AsksOwn (move_asks name m at).call
move_asked name m (moving.Clones t) = refl
move_asked name m (moving.Makes counter) = ((λ kind. refl), refl)
move_asked name m at = tt

remove_asked : (h : Hold) (at : Removing) → AsksOwn (remove_asks h at).call
remove_asked h removing.Begins = tt
remove_asked h at = tt

sweep_asked : (h : Hold) (spot : Spot) (at : Sweeping) → AsksOwn (sweep_asks h spot at).call
sweep_asked h spot sweeping.Begins = tt
sweep_asked h spot at = tt

mend_asked : (m : Mend) (at : Mending) → AsksOwn (mend_asks m at).call
mend_asked m mending.Begins = tt
mend_asked m at = tt

asked : (e : Errand) (p : Place) → AsksOwn (asks_at e p).call
asked e (places.Seeks c) = tt
asked e (places.Locks c v) = tt
asked e (places.Frees h code first) = tt
asked e (places.Creates f at) = create_asked _ f at
asked e (places.Adds h server) = tt
asked e (places.Backs h at) = backup_asked _ h at
asked e (places.Dumps s at) = dump_asked s at
asked e (places.Releases h at) = release_asked h at
asked e (places.Tours r at) = tour_asked _ r at
asked e (places.Visits r s at) = visit_asked _ r s at
asked e (places.Surveys h why s left seen) = tt
asked e (places.Plans h target) = tt
asked e (places.Moves m at) = move_asked _ m at
asked e (places.Removes h seen at) = remove_asked h at
asked e (places.Sweeps h spot left at) = sweep_asked h spot at
asked e (places.Asks c h seen) = tt
asked e (places.Mends m at) = mend_asked m at

-- ---- what every node makes

one_of : (b : Bool) (x y : Message) → Fits x → Fits y → Fits (cond b x y)
one_of true x y h k = h
one_of false x y h k = k

answers : (me : Node) (boot : ℕ) → AnswersAre Fits me boot
answers me boot = record { notice = λ head to. tt; refusal = λ head code to. tt }

-- nothing is asked of the dumps that servers send on
abbrev pub Any : Node → Sending → Type 0
Any n x = ⊤

abbrev pub Made : Node → Message → Type 0
Made n m = Fits m

pub rules : Rules Made Any Fits
rules = record {
  said = λ n m h. h;
  servers = λ i boot. record {
    file = record { answers = answers (Server i) boot; reply = λ head reply to. tt; breaks = λ n known c. tt };
    piece = λ n known number x h. tt;
    forward = λ x code h. one_of (is_number code 0) _ _ tt tt;
    moved = λ x h. tt;
  };
  volumes = λ i d v m q. makes_any Fits (Any (Server i)) (Server i) d v m (λ to. record { reply = λ r. tt; refused = λ code. tt; sends_on = λ x. tt });
  database = λ boot. answers _ boot;
  locations = λ s m q. loc_makes_any Fits s m (λ head reply to. tt);
  clients = λ n. record { answers = λ boot. answers _ boot; reply = λ boot head reply to. tt; call = λ head user call is none. tt; look = λ head user o is none. tt };
  admins = λ n boot. answers _ boot;
  asks = λ n a r is. asked (errand_of a r.act) r.place;
}
