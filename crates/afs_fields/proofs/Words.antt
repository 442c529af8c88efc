-- Words that are read one after the other, each under a name, are read as a list.
use Rattle.std.proofs.Common.{◌≡◌, ℕ, zero, suc, List, [], ◌∷◌, Result, Ok, Err, refl, ap, ◌∙◌}
use Rattle.std.specs.Prelude.{get_or}
use Rattle.afs_xdr.specs.declared.faults.XdrFault.{XdrFault}
use Rattle.afs_xdr.specs.Words.{◌>>=◌, word_at}
use Rattle.afs_num.specs.declared.calls.AfsFetchStatus.{AfsFetchStatus}
use Rattle.spec_shape.specs.Items.{items_at, status_at}
use Rattle.spec_shape.specs.Reading.{read_as}

-- so many words, and what is made of them
gathered_at : {A : Type 0} → ℕ → (List ℕ → A) → List ℕ → Result (A × List ℕ) XdrFault
gathered_at {A} zero made bytes = Ok (made [], bytes)
gathered_at {A} (suc n) made bytes = word_at bytes >>= λ w. gathered_at n (λ ws. made (w.0 ∷ ws)) w.1

in_front : {A : Type 0} (made : List ℕ → A) (n : ℕ) (r : Result (List ℕ × List ℕ) XdrFault) → read_as (λ ws. made (n ∷ ws)) r ≡ read_as made (r >>= λ ws. Ok (n ∷ ws.0, ws.1))
in_front {A} made n (Ok ws) = refl
in_front {A} made n (Err f) = refl

one_more : {A : Type 0} (made : List ℕ → A) (n : ℕ) (r : Result (ℕ × List ℕ) XdrFault) → ((w : ℕ × List ℕ) → gathered_at n (λ ws. made (w.0 ∷ ws)) w.1 ≡ read_as (λ ws. made (w.0 ∷ ws)) (items_at word_at n w.1))
    → (r >>= λ w. gathered_at n (λ ws. made (w.0 ∷ ws)) w.1) ≡ read_as made (r >>= λ w. items_at word_at n w.1 >>= λ ws. Ok (w.0 ∷ ws.0, ws.1))
one_more {A} made n (Ok w) further = further w ∙ in_front made w.0 (items_at word_at n w.1)
one_more {A} made n (Err f) further = refl

gathered : {A : Type 0} (n : ℕ) (made : List ℕ → A) (bytes : List ℕ) → gathered_at n made bytes ≡ read_as made (items_at word_at n bytes)
unfolding items_at gathered_at
gathered {A} zero made bytes = refl
gathered {A} (suc n) made bytes = one_more made n (word_at bytes) (λ w. gathered n (λ ws. made (w.0 ∷ ws)) w.1)

abbrev pub status_of : List ℕ → AfsFetchStatus
status_of ws = record {
  interface_version = get_or ws 0 0;
  file_type = get_or ws 1 0;
  link_count = get_or ws 2 0;
  length = get_or ws 3 0;
  data_version = get_or ws 4 0;
  author = get_or ws 5 0;
  owner = get_or ws 6 0;
  caller_access = get_or ws 7 0;
  anonymous_access = get_or ws 8 0;
  unix_mode_bits = get_or ws 9 0;
  parent_vnode = get_or ws 10 0;
  parent_unique = get_or ws 11 0;
  seg_size = get_or ws 12 0;
  client_mod_time = get_or ws 13 0;
  server_mod_time = get_or ws 14 0;
  group = get_or ws 15 0;
  sync_counter = get_or ws 16 0;
  spare1 = get_or ws 17 0;
  spare2 = get_or ws 18 0;
  spare3 = get_or ws 19 0;
  spare4 = get_or ws 20 0;
}

status_gathered : (bytes : List ℕ) → status_at bytes ≡ read_as status_of (items_at word_at 21 bytes)
unfolding status_at gathered_at
status_gathered bytes = gathered 21 status_of bytes

pub status_read : (bytes ws rest : List ℕ) → items_at word_at 21 bytes ≡ Ok (ws, rest) → status_at bytes ≡ Ok (status_of ws, rest)
status_read bytes ws rest e = status_gathered bytes ∙ ap (read_as status_of) e

pub status_refused : (bytes : List ℕ) (f : XdrFault) → items_at word_at 21 bytes ≡ Err f → status_at bytes ≡ Err f
status_refused bytes f e = status_gathered bytes ∙ ap (read_as status_of) e
