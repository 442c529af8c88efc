-- What a volume server writes has a form in a record.
use Rattle.std.proofs.Common.{◌≡◌, ◌≤◌, ◌<◌, ◌^◌, ℕ, Bool, true, false, List, length, Some, refl, arith, le-leb, lit<}
use Rattle.afs_num.specs.declared.records.RecordBody.TheVariants as bodies
use Rattle.spec_records.specs.Records.{flag_form, kind_form, most_dump, most_name, server_form}
use Rattle.spec_shape.specs.Tables.{IsServer, IsVolumeKind}
use Rattle.afs_voldecisions.specs.Verdicts.{HasForm, IsNamed}

kind_fits : (n : ℕ) → n < 2 ^ 32 → IsVolumeKind n → kind_form.Fits n
kind_fits n word is = (word, rw (le-leb 0 n (omega arith), le-leb n 2 is) refl)

server_fits : (n : ℕ) → n < 2 ^ 32 → IsServer n → server_form.Fits n
server_fits n word is = (word, rw (le-leb 1 n is.0, le-leb n 8 is.1) refl)

flag_fits : (b : Bool) → flag_form.Fits b
flag_fits true = (lit< tt, refl)
flag_fits false = (lit< tt, refl)

pub create_fits : (id family kind flags quota : ℕ) (name : List ℕ) (is_new : Bool) → id < 2 ^ 32 → family < 2 ^ 32 → kind < 2 ^ 32 → flags < 2 ^ 32 → quota < 2 ^ 32 → IsNamed name kind →
    HasForm (Some (bodies.Create id family name kind flags quota is_new))
create_fits id family kind flags quota name is_new id_fits family_fits kind_word flags_fits quota_fits named =
    let short = named.0 in
    (id_fits, (family_fits, ((short, omega (arith, short)), (kind_fits kind kind_word named.1, (flags_fits, (quota_fits, (flag_fits is_new, tt)))))))

pub clone_fits : (source id kind release : ℕ) (name : List ℕ) → source < 2 ^ 32 → id < 2 ^ 32 → kind < 2 ^ 32 → release < 2 ^ 32 → IsNamed name kind → HasForm (Some (bodies.Clone source id name kind release))
clone_fits source id kind release name source_fits id_fits kind_word release_fits named =
    let short = named.0 in
    (source_fits, (id_fits, ((short, omega (arith, short)), (kind_fits kind kind_word named.1, (release_fits, tt)))))

pub restore_fits : (id : ℕ) (dump : List ℕ) → id < 2 ^ 32 → length dump ≤ most_dump → HasForm (Some (bodies.Restore id dump))
restore_fits id dump id_fits short = (id_fits, ((short, omega (arith, short)), tt))

pub forward_fits : (id server : ℕ) → id < 2 ^ 32 → server < 2 ^ 32 → IsServer server → HasForm (Some (bodies.Forward id server))
forward_fits id server id_fits word is = (id_fits, (server_fits server word is, tt))
