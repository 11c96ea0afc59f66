-- Lemmas with which the check proves the rest of the contracts.
use Rattle.minimiser.proofs.Sums.{cost_at-map}
use Rattle.nnf_text.proofs.Extended.{extends_on, extends_same, extends_three, extends_whole}
use Rattle.scratch_pool.proofs.Counted.{block-below}
use Rattle.scratch_pool.proofs.Written.{length-written}
use Rattle.smooth_nnf.proofs.EdgeLemmas.{all-edges, edges-next, edges-up, last-kids, or-edges}
use Rattle.smooth_nnf.proofs.FilledTexts.{fillers-added, no-bits}
use Rattle.smooth_nnf.proofs.LackingParts.{is-lacking, no-fillers, none-under, set-bit}
use Rattle.smooth_nnf.proofs.LineLemmas.{child-under, few-kids-of, last-text, line-room, or-lines-text, or-text}
use Rattle.smooth_nnf.proofs.LinePlaces.{line-fits, lines_after-more, none-cheapest, one-cheapest, own_lines-more}
use Rattle.smooth_nnf.proofs.PartBits.{part_ones}
use Rattle.smooth_nnf.proofs.WholeText.{count-fits, counted, edges-fit, least_text-is_neat, least_text-means}
use Rattle.smooth_nnf.proofs.WordParts.{count-le, count-more, mask_bits, masked, node_parts, over-less}
use Rattle.std.proofs.Math.Bool.{and-true}
use Rattle.std.proofs.lemmas.Bool.{eqb-true}
use Rattle.std.proofs.lemmas.List.{append-nil, length-set, length-take-le, take_all, take_more_set}
use Rattle.std.proofs.lemmas.List.FromFn.{length-enumerate_from}

-- parts below nodes, as sets and words

pub ruleset nothing_lacks = (eqb-true, is-lacking, none-under)

pub ruleset missing_parts = (no-fillers, over-less)

pub ruleset parts_below_node = (block-below, node_parts, set-bit)

pub ruleset masked_bits = (and-true, mask_bits, masked, part_ones)

pub ruleset counted_parts = (count-le, count-more, length-take-le)

pub ruleset stored_costs = (cost_at-map)

-- edges and texts of lines

pub ruleset counted_edges = (all-edges, edges-next, edges-up, length-enumerate_from, take_all)

pub ruleset last_line = (extends_same, last-kids, last-text)

pub ruleset edges_of_or = (child-under, few-kids-of, or-edges)

pub ruleset filled_lines = (extends_same, no-fillers)

pub ruleset added_fillers = (extends_same, fillers-added, no-bits)

pub ruleset appended_nothing = (append-nil)

pub ruleset numbered_nodes = (length-enumerate_from)

pub ruleset lines_of_kind = (extends_same, few-kids-of, line-room, or-lines-text)

pub ruleset child_under = (child-under)

pub ruleset text_of_or = (extends_three, or-text)

-- places of lines

pub ruleset cheapest_one = (none-cheapest, one-cheapest)

pub ruleset placed_lines = (cost_at-map, length-set, line-fits, lines_after-more, own_lines-more, take_more_set)

-- the whole text

pub ruleset joined_texts = (extends_on, extends_three, extends_whole)

pub ruleset layout_sizes = (count-fits, counted, edges-fit)

pub ruleset written_text = (least_text-is_neat, least_text-means, length-written)
