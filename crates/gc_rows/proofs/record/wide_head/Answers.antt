use Rattle.gc_rows.proofs.Common.{◌≡◌, ◌++◌, ◌∙◌, List, ℕ, map, ap, refl, rules, codes, quantity_names, field_text, fields_behind_commas}
use Rattle.gc_rows.proofs.Heads.{first_behind_run, last_names, wide_row}
use Rattle.gc_rows.proofs.NamedFields.{names_written}
use Rattle.gc_rows.proofs.record.wide_head.Goals as goal

pub returns : goal.returns
returns c =
    let names = map (λ n. n.items) c.args.columns.now in
    let front : List ℕ = codes "run,sent,time,cycle,step,target,name,procedure,outcome,fault,rc_com,rc,values,hz_rad,v_rad,distance_m,mode,easting_m,northing_m,height_m,instrument_height_m,reflector_height_m,face,prism_type,temperature_c,places,release,version,subversion,serial,instrument,year,month,day,hour,minute,second" in
    let end : List ℕ = codes ",quality,attempt,request\n" in
    let known : front ≡ field_text (codes "run") ++ fields_behind_commas (first_behind_run ++ quantity_names) = refl in
    let last : end ≡ fields_behind_commas last_names ++ codes "\n" = refl in
    let begun : c.append.new.to.items ≡ front = search rules in
    let ended : c.append-2.new.to.items ≡ c.append_names.new.head.items ++ end = search rules in
    ended ∙ ap (λ l. c.append_names.new.head.items ++ l) last
    ∙ ap (λ l. l ++ (fields_behind_commas last_names ++ codes "\n")) (c.append_names.ensures.text ∙ ap (λ l. c.append.new.to.items ++ l) (names_written (λ n. n.items) c.args.columns.now)
    ∙ ap (λ l. l ++ fields_behind_commas names) (begun ∙ known))
    ∙ wide_row names
