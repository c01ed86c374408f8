use Rattle.pam_codes.proofs.Writing.{all-is, all-then, err-front, front-is, front-longer, front-then, writes-then}
use Rattle.pam_graph.specs.declared.node.Node.{Node}
use Rattle.pam_drawing.proofs.picture.svg.write_svg.Goals as goal
use Rattle.pam_drawing.specs.picture.Picture.{description_text, svg_text, table_text}
use Rattle.std.proofs.Common.{List, ap}

pub returns-in_err-put_description : goal.returns-in_err-put_description
unfolding svg_text
returns-in_err-put_description g c =
    let told = ap (λ (nodes : List Node). description_text c.args.title.now c.args.stack.now nodes c.args.layout.now) c.nodes.ensures.nodes in
    err-front _ c.from_residual.ensures.0 (front-longer _ (front-longer _ (front-longer _ (front-is c.in_err-put_description.ensures told))))

pub returns-in_err-put_table : goal.returns-in_err-put_table
unfolding svg_text
returns-in_err-put_table g c =
    let told = ap (λ (nodes : List Node). description_text c.args.title.now c.args.stack.now nodes c.args.layout.now) c.nodes.ensures.nodes in
    let table = ap (λ (nodes : List Node). table_text c.args.stack.now nodes c.args.layout.now) c.nodes.ensures.nodes in
    err-front _ c.from_residual-in_err-put_table.ensures.0
    (front-longer _ (front-longer _ (front-then (all-is c.in_ok-put_description.ensures told) (front-is c.in_err-put_table.ensures table))))

pub returns-in_err-put_shapes : goal.returns-in_err-put_shapes
unfolding svg_text
returns-in_err-put_shapes g c =
    let told = ap (λ (nodes : List Node). description_text c.args.title.now c.args.stack.now nodes c.args.layout.now) c.nodes.ensures.nodes in
    let table = ap (λ (nodes : List Node). table_text c.args.stack.now nodes c.args.layout.now) c.nodes.ensures.nodes in
    err-front _ c.from_residual-in_err-put_shapes.ensures.0
    (front-longer _ (front-then (all-then (all-is c.in_ok-put_description.ensures told) (all-is c.in_ok-put_table.ensures table))
    c.in_err-put_shapes.ensures))

pub returns : goal.returns
unfolding svg_text
returns g c =
    let told = ap (λ (nodes : List Node). description_text c.args.title.now c.args.stack.now nodes c.args.layout.now) c.nodes.ensures.nodes in
    let table = ap (λ (nodes : List Node). table_text c.args.stack.now nodes c.args.layout.now) c.nodes.ensures.nodes in
    writes-then _ _ _
    (all-then (all-then (all-is c.in_ok-put_description.ensures told) (all-is c.in_ok-put_table.ensures table)) c.in_ok-put_shapes.ensures)
    c.put_legend.ensures
