use Rattle.std.proofs.Common.{ap, ◌∙◌}
use Rattle.rules.specs.declared.entry.Entry.TheVariants.{Trade}
use Rattle.book.specs.View.{view}
use Rattle.sheet.proofs.Ends.{enter_zone, enter_resource, enter_load, enter_bilateral, enter_auction}
use Rattle.sheet.proofs.section.enter_into.Goals as goal

pub returns-in-Zone : goal.returns-in-Zone
returns-in-Zone c = enter_zone c.args.ticket.now.month c.args.entry (view c.args.book.now) (view c.zone.new.self) c.zone.result c.in-Zone.zone c.in-Zone.is c.zone.ensures

pub returns-in-Resource : goal.returns-in-Resource
returns-in-Resource c = let a = c.in-Resource in enter_resource c.args.ticket.now.month c.args.entry (view c.args.book.now) (view c.resource.new.self) c.resource.result a.offer a.is c.resource.ensures

pub returns-in-Load : goal.returns-in-Load
returns-in-Load c = let a = c.in-Load in enter_load c.args.ticket.now.month c.args.entry (view c.args.book.now) (view c.load.new.self) c.load.result a.load a.is c.load.ensures

pub returns-in-Trade-Bilateral : goal.returns-in-Trade-Bilateral
returns-in-Trade-Bilateral c = let a = c.in-Trade-Bilateral in enter_bilateral c.args.ticket.now.month c.args.entry (view c.args.book.now) (view c.bilateral.new.self) c.bilateral.result a.trade (a.is ∙ ap Trade (rw a.is at a.field-0-is)) c.bilateral.ensures

pub returns-in-Trade-Auction : goal.returns-in-Trade-Auction
returns-in-Trade-Auction c = let a = c.in-Trade-Auction in enter_auction c.args.ticket.now.month c.args.entry (view c.args.book.now) (view c.auction.new.self) c.auction.result a.trade (a.is ∙ ap Trade (rw a.is at a.field-0-is)) c.auction.ensures
