-- What an idle client trusts can be shown: a read of it from the cache is good.
use Rattle.spec_history.specs.declared.scripts.Script.{Script}
use Rattle.law_legal.proofs.ReadReplies.{fid_of}
use Rattle.law_legal.proofs.KeptCame.{Had, brought_shown}
use Rattle.law_legal.proofs.KeptIsLookedAt.{Ready, ShownRead, ready_good}
use Rattle.law_legal.proofs.KeptStepAsks.{idle_done}
use Rattle.law_legal.proofs.ReadRows.{ready_old}
use Rattle.law_legal.proofs.KeptTrusting.{Trusts}
use Rattle.law_legal.specs.ClientParts.{IsFetchedEntry}
use Rattle.law_legal.specs.Ideal.{clock_of}
use Rattle.law_legal.specs.Legal.{GoodRead, IsBrought}
use Rattle.law_legal.specs.Past.{lines_of}
use Rattle.afs_num.specs.declared.histories.Body.{Body}
use Rattle.afs_num.specs.declared.histories.ReadBody.{ReadBody}
use Rattle.afs_num.specs.declared.histories.ReadBody.TheVariants as seen
use Rattle.afs_num.specs.declared.histories.ReadSource.TheVariants.{Cached}
use Rattle.afs_num.specs.declared.types.Fid.{Fid}
use Rattle.afs_num.specs.declared.types.Node.{Node}
use Rattle.afs_num.specs.declared.types.Node.TheVariants.{Client}
use Rattle.spec_rows.specs.ClientRow.{body_seen, find_cached, shown_by}
use Rattle.spec_rows.specs.Going.{ClientState, Need, reads, reads_status}
use Rattle.spec_rows.specs.Runs.{Entry}
use Rattle.spec_rows.specs.States.{CacheEntry}
use Rattle.std.proofs.Common.{◌≡◌, ◌<◌, ℕ, List, [], Some, None, refl, ap, subst, ◌∙◌}

-- what can be shown of a read but for the reply that was used is all, where nothing was fetched
cached_good : (s : Script) (c : Node) (f : Fid) (index : ℕ) (body : ReadBody) (past : List Entry) → ShownRead s c f index Cached body past [] → IsBrought s c f index Cached body (lines_of past) → GoodRead s c f index Cached body past []
cached_good s c f index body past r b = record {
  whole = r.whole;
  not_older = r.not_older;
  used = λ e. absurd cc;
  brought = b;
  reply = r.reply;
  by = r.by;
  expiry = r.expiry;
  grant = r.grant;
  exact = r.exact;
  home = r.home;
  granted = r.granted;
  lasts = r.lasts;
  kept = r.kept;
  newest = r.newest;
}

shown_well : (s : Script) (j : ℕ) (x : ClientState) (clock : ℕ) (past : List Entry) (f : Fid) (e : CacheEntry) (need : Need) (body : ReadBody) → clock_of (lines_of past) ≡ clock → Trusts s j x clock past → ((g : Fid) (u : CacheEntry) → find_cached g x.cache ≡ Some u → IsFetchedEntry j g u past) → x.running ≡ None → find_cached f x.cache ≡ Some e → clock < e.expiry → Had s j x.cache (lines_of past) → shown_by need e ≡ Some body
    → GoodRead s (Client j) f e.index Cached body past []
shown_well s j x clock past f e need body ticks T K idle found lasts B shown =
    let own : e.fid ≡ f = fid_of f x.cache e found in
    let at : find_cached e.fid x.cache ≡ Some e = ap (λ (g : Fid). find_cached g x.cache) own ∙ found in
    let r : Ready s j e.fid e past [] = ready_old s j x clock past [] e.fid e refl T K (idle_done j x e.fid e.server past idle) lasts (record { found = at; fetched = refl; spares = λ o d. d; low = λ l. (T.entries e.fid e at).low l }) in
    subst (λ (g : Fid). GoodRead s (Client j) g e.index Cached body past []) own (cached_good s (Client j) e.fid e.index body past (ready_good s j clock past [] need e body ticks lasts shown r) (brought_shown s j need e body (lines_of past) shown (B e.fid e at)))

pub trusted_good : (s : Script) (j : ℕ) (x : ClientState) (clock : ℕ) (past : List Entry) (f : Fid) (e : CacheEntry) → clock_of (lines_of past) ≡ clock → Trusts s j x clock past → ((g : Fid) (u : CacheEntry) → find_cached g x.cache ≡ Some u → IsFetchedEntry j g u past) → x.running ≡ None → find_cached f x.cache ≡ Some e → clock < e.expiry → Had s j x.cache (lines_of past)
    → ((body : Body) → e.body ≡ Some body → GoodRead s (Client j) f e.index Cached (seen.Contents body) past []) × GoodRead s (Client j) f e.index Cached (seen.Status e.status) past []
trusted_good s j x clock past f e ticks T K idle found lasts B = (
  (λ body some. shown_well s j x clock past f e (reads f) (seen.Contents body) ticks T K idle found lasts B (ap body_seen some)),
  shown_well s j x clock past f e (reads_status f) (seen.Status e.status) ticks T K idle found lasts B refl,
)
