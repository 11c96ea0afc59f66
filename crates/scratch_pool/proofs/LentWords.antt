-- Facts for holders of blocks and runs: lent words are zeroed, and no other holder writes them.
use Rattle.std.proofs.Common.{◌≡◌, ◌≢◌, ℕ, ◌+◌, ◌*◌, ◌≤◌, ◌<◌, true, false, List, [], ◌∷◌, length, replicate, refl, sym, ◌∙◌, subst, arith, inr, get_or-set_same, get_or-set_other}
use Rattle.std.specs.Prelude.{Contains}
use Rattle.std.proofs.lemmas.List.{length-replicate, get_or_default}
use Rattle.std.proofs.lemmas.List.Elements.{Contains-append_right}
use Rattle.scratch_pool.specs.declared.region.Span.{Span}
use Rattle.scratch_pool.specs.Pools.{Blocks, IsOut, IsFree, free_blocks, block_words, with_block, taken, given}
use Rattle.scratch_pool.specs.Pools as pools
use Rattle.scratch_pool.specs.Regions.{Carved, words_used, run_words, with_run, carved}
use Rattle.scratch_pool.specs.Regions as regions
use Rattle.scratch_pool.proofs.Written.{Apart, length-words_at, written-there, written-apart}
use Rattle.scratch_pool.proofs.Stacked.{contained, contained-apart}
use Rattle.scratch_pool.proofs.Counted.{out_within, block-below, blocks-apart, block-stays, count-taken, count-given}

-- a block lies within the words of its pool
block-fits : (pool : Blocks) → pools.IsSound pool → (number : ℕ) → number < length pool.out → number * pool.size + pool.size ≤ length pool.words
block-fits pool sound number within = let ends = block-below number (length pool.out) pool.size within in omega (arith, ends, sound)

-- it has the size of the pool's blocks
pub length-block : (pool : Blocks) → pools.IsSound pool → (number : ℕ) → IsOut pool number → length (block_words pool number) ≡ pool.size
length-block pool sound number out = grind (arith, length-words_at, block-fits, out_within)

-- all words of a block that is handed out are 0
pub taken-zeroed : (pool : Blocks) → pools.IsSound pool → (number : ℕ) → number < length pool.out → block_words (taken pool number) number ≡ replicate pool.size 0
taken-zeroed pool sound number within = grind (arith, length-replicate, written-there)

-- a block keeps its words when another is handed out
pub taken-others : (pool : Blocks) → pools.IsSound pool → (number other : ℕ) → IsFree pool number → IsOut pool other → block_words (taken pool number) other ≡ block_words pool other
taken-others pool sound number other inside out = grind (arith, length-replicate, block-fits, written-apart, blocks-apart, get_or_default)

-- the one that was handed out is out, and every pool stays sound
pub taken-out : (pool : Blocks) (number : ℕ) → number < length pool.out → IsOut (taken pool number) number
taken-out pool number within = get_or-set_same pool.out number true false within

-- a block has the words that are written to it
pub written-block : (pool : Blocks) → pools.IsSound pool → (number : ℕ) → IsOut pool number
    → (new : List ℕ) → length new ≡ pool.size → block_words (with_block pool number new) number ≡ new
written-block pool sound number out new long = grind (arith, block-fits, out_within, written-there)

-- a block keeps its words when another is written
pub written-others : (pool : Blocks) → pools.IsSound pool → (number other : ℕ) → IsOut pool number → IsOut pool other → other ≢ number
    → (new : List ℕ) → length new ≡ pool.size → block_words (with_block pool number new) other ≡ block_words pool other
written-others pool sound number other out out_other ne new long = block-stays pool number other sound out out_other ne new long

-- a run has as many words as it says
pub length-run : (region : Carved) → regions.IsSound region → (run : Span) → Contains region.runs run → length (run_words region run) ≡ run.len
length-run region sound run held =
    let lies = contained region.runs run sound.0 held in
    let room = sound.1 in
    length-words_at region.words run.start run.len (omega (arith, lies, room))

-- a run keeps its words when another is carved after it
pub carved-others : (region : Carved) → regions.IsSound region → (run other : Span) → run.start ≡ words_used region.runs → run.start + run.len ≤ length region.words
    → Contains region.runs other → run_words (carved region run) other ≡ run_words region other
carved-others region sound run other at fits held =
    let zeros : List ℕ = replicate run.len 0 in
    let long : length zeros ≡ run.len = length-replicate {A = ℕ} run.len 0 in
    let lies = contained region.runs other sound.0 held in
    written-apart region.words run.start zeros (omega (arith, fits, long)) other.start other.len (inr (omega (arith, lies, at)))

-- a run has the words that are written to it
pub written-run : (region : Carved) → regions.IsSound region → (run : Span) → Contains region.runs run
    → (new : List ℕ) → length new ≡ run.len → run_words (with_run region run new) run ≡ new
written-run region sound run held new long =
    let lies = contained region.runs run sound.0 held in
    let room = sound.1 in
    grind (arith, written-there)

-- a run keeps its words when another is written
pub run-others : (region : Carved) → regions.IsSound region → (run other : Span) → Contains region.runs run → Contains region.runs other → other ≢ run
    → (new : List ℕ) → length new ≡ run.len → run_words (with_run region run new) other ≡ run_words region other
run-others region sound run other held held_other ne new long =
    let lies = contained region.runs run sound.0 held in
    let room = sound.1 in
    written-apart region.words run.start new (omega (arith, lies, long, room)) other.start other.len
    (subst (λ n. Apart run.start n other.start other.len) (sym long) (contained-apart region.runs run other sound.0 held held_other ne))

-- one block less is free, or one more
pub taken-free : (pool : Blocks) (number : ℕ) → IsFree pool number → free_blocks (taken pool number) + 1 ≡ free_blocks pool
taken-free pool number inside = count-taken pool.out number inside.0 inside.1

pub given-free : (pool : Blocks) (number : ℕ) → IsOut pool number → free_blocks (given pool number) ≡ free_blocks pool + 1
given-free pool number out = count-given pool.out number out

-- a block stays out while another is handed out or given back
pub taken-stays_out : (pool : Blocks) (number other : ℕ) → number < length pool.out → IsOut pool other → IsOut (taken pool number) other
taken-stays_out pool number other within out = grind (arith, get_or-set_same, get_or-set_other)

pub given-stays_out : (pool : Blocks) (number other : ℕ) → other ≢ number → IsOut pool other → IsOut (given pool number) other
given-stays_out pool number other ne out = get_or-set_other pool.out number other false false ne ∙ out

-- the carved run is the region's, and all others stay so
pub carved-held : (region : Carved) (run : Span) → Contains (carved region run).runs run
carved-held region run = Contains-append_right region.runs (run ∷ []) run (0, omega arith, refl)
